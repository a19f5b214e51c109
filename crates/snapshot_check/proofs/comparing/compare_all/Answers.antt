use Rattle.std.proofs.Common.{sym, subst, ◌∙◌, append-nil}
use Rattle.std.proofs.lemmas.Result.{err_from_is_err_and}
use Rattle.snapshot_check.specs.Private.{IsCompared, IsTaken}
use Rattle.snapshot_check.proofs.Taking.{none_compared, taken, taken_so, failed_after}
use Rattle.snapshot_check.proofs.comparing.compare_all.Goals as goal

pub rows-init : goal.rows-init
rows-init g c =
    let reads = g.S.Shown.reads c.args.shown.now in
    let at = g.S.Shown.at_date c.args.shown.now in
    let new = c.new-compared.result in
    record {
      compared = subst (λ rows. IsCompared reads rows at c.args.limit new) (sym c.requires) (none_compared reads at c.args.limit new c.new-compared.ensures.seen c.new-compared.ensures.missing c.new-compared.ensures.different);
      stays = g.met.S.Shown.stays_still c.args.shown.now;
    }

pub rows-smaller : goal.rows-smaller
rows-smaller g c = rw c.in-Some.is at c.in_ok-row.ensures.fewer

pub rows-preserved : goal.rows-preserved
rows-preserved g c =
    let reads = g.S.Shown.reads c.args.shown.now in
    let at = g.S.Shown.at_date c.args.shown.now in
    let before = c.rows.invariant in
    let same = g.met.S.Shown.same c.args.shown.now c.rows.shown before.stays in
    let now = g.S.Shown.reads c.rows.shown in
    let step = taken_so now reads (λ read wanted may. g.met.S.Shown.steady c.args.shown.now c.rows.shown before.stays read wanted may) at c.args.limit c.in-Some.row c.rows.compared c.take.new.self
    (subst (λ s. IsTaken now s c.args.limit c.in-Some.row c.rows.compared c.take.new.self) same c.in_ok-take.ensures.taken) in
    record {
      compared = subst (λ rows. IsCompared reads rows at c.args.limit c.take.new.self) (sym (rw c.in-Some.is at c.in_ok-row.ensures.given)) (taken reads at c.args.limit _ c.in-Some.row c.rows.compared c.take.new.self before.compared step);
      stays = g.met.S.Shown.stays_on c.args.shown.now c.rows.shown c.take.new.shown before.stays c.in_ok-take.ensures.stays;
    }

pub returns-in_err-row-clause-fails : goal.returns-in_err-row-clause-fails
returns-in_err-row-clause-fails g c =
    let p = err_from_is_err_and c.from_residual.result c.from_residual.ensures.1 in
    rw (p.1, p.2) (c.in_err-row.ensures.faulty, c.rows.invariant.stays)

pub returns-in_err-take-clause-fails : goal.returns-in_err-take-clause-fails
returns-in_err-take-clause-fails g c =
    let p = err_from_is_err_and c.from_residual-in_err-take.result c.from_residual-in_err-take.ensures.1 in
    let before = c.rows.invariant.stays in
    rw (p.1, p.2) (failed_after _ _ _ _ _ _
    (λ s. g.met.S.Shown.stays_on c.args.shown.now c.rows.shown c.take.new.shown before s)
    (λ e f. g.met.S.Shown.fails_on e c.args.shown.now c.rows.shown c.take.new.shown before f)
    c.in_err-take.ensures.fails)

pub returns-clause-compared : goal.returns-clause-compared
returns-clause-compared g c =
    let reads = g.S.Shown.reads c.args.shown.now in
    let at = g.S.Shown.at_date c.args.shown.now in
    let given = (rw c.in_default.is at c.in_ok-row.ensures.given) ∙ append-nil _ in
    subst (λ rows. IsCompared reads rows at c.args.limit c.rows.compared) (sym given) c.rows.invariant.compared

pub returns-clause-stays : goal.returns-clause-stays
returns-clause-stays g c = c.rows.invariant.stays
