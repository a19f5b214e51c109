use Rattle.std.proofs.Common.{[], ◌∷◌, ◌++◌, refl, sym, subst}
use Rattle.std.proofs.lemmas.Result.{err_from_is_err_and}
use Rattle.snapshot_check.specs.Private.{IsSeen}
use Rattle.snapshot_check.proofs.Taking.{judged}
use Rattle.snapshot_check.proofs.comparing.Compared.take.Goals as goal

pub returns-clause-taken : goal.returns-clause-taken
returns-clause-taken g c =
    let reads = g.S.Shown.reads c.args.shown.now in
    let at = g.S.Shown.at_date c.args.shown.now in
    let both = judged reads at c.args.limit c.args.row c.in_ok-verdict.verdict c.args.self.now _ c.note.new.self c.in_ok-verdict.ensures.verdict c.in_ok-note.ensures.notes refl refl in
    record {
      seen = λ rows seen. subst (λ s. IsSeen (rows ++ c.args.row ∷ []) s) (sym c.in_ok-note.ensures.seen) (c.in_ok-add.ensures rows seen);
      missing = both.0;
      different = both.1;
    }

pub returns-in_err-add-clause-fails : goal.returns-in_err-add-clause-fails
returns-in_err-add-clause-fails g c =
    let p = err_from_is_err_and c.from_residual.result c.from_residual.ensures.1 in
    rw (p.1, p.2) (g.met.S.Shown.stays_still c.args.shown.now)

pub returns-in_err-verdict-clause-fails : goal.returns-in_err-verdict-clause-fails
returns-in_err-verdict-clause-fails g c =
    let p = err_from_is_err_and c.from_residual-in_err-verdict.result c.from_residual-in_err-verdict.ensures.1 in
    rw (p.1, p.2) c.in_err-verdict.ensures.fails

pub returns-in_err-note-clause-fails : goal.returns-in_err-note-clause-fails
returns-in_err-note-clause-fails g c =
    let p = err_from_is_err_and c.from_residual-in_err-note.result c.from_residual-in_err-note.ensures.1 in
    rw (p.1, p.2) c.in_ok-verdict.ensures.stays
