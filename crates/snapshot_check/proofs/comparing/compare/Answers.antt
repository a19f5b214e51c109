use Rattle.std.proofs.Common.{◌∙◌}
use Rattle.std.proofs.lemmas.Result.{err_from_is_err_and}
use Rattle.snapshot_check.specs.Differences.{Exactly}
use Rattle.snapshot_check.proofs.Searching.{counted}
use Rattle.snapshot_check.proofs.Taking.{told_at, differences_so, failed_after}
use Rattle.snapshot_check.proofs.comparing.compare.Goals as goal

pub returns-clause-possible : goal.returns-clause-possible
returns-clause-possible g c =
    let reads = g.S.Shown.reads c.args.shown.now in
    let at = g.S.Shown.at_date c.args.shown.now in
    let rows = g.P.Package.given c.compare_all.new.packaged in
    let before = c.in_ok-seen.ensures in
    let sorted = c.sort.ensures rows before.compared.seen in
    let same = g.met.S.Shown.same c.args.shown.now c.compare_all.new.shown before.stays in
    let now = g.S.Shown.reads c.compare_all.new.shown in
    record {
      counted = λ kind. c.counts.ensures kind ∙ counted rows c.sort.new.self sorted kind;
      missing = before.compared.missing;
      different = before.compared.different;
      more = told_at now reads (λ read wanted may. g.met.S.Shown.steady c.args.shown.now c.compare_all.new.shown before.stays read wanted may) rows (g.S.Shown.at_date c.compare_all.new.shown) at c.args.limit c.in_ok-more.more same (c.in_ok-more.ensures.more rows sorted);
    }

pub returns-clause-found : goal.returns-clause-found
returns-clause-found g c = λ honest.
    differences_so (g.S.Shown.reads c.args.shown.now) Exactly (λ read wanted may. g.met.S.Shown.exact c.args.shown.now honest read wanted may)
    (g.P.Package.given c.compare_all.new.packaged) (g.S.Shown.at_date c.args.shown.now) c.args.limit _ (returns-clause-possible g c)

pub returns-clause-stays : goal.returns-clause-stays
returns-clause-stays g c = g.met.S.Shown.stays_on c.args.shown.now c.compare_all.new.shown c.find_more.new.shown c.in_ok-seen.ensures.stays c.in_ok-more.ensures.stays

pub returns-in_err-more-clause-fails : goal.returns-in_err-more-clause-fails
returns-in_err-more-clause-fails g c =
    let p = err_from_is_err_and c.from_residual-in_err-more.result c.from_residual-in_err-more.ensures.1 in
    let before = c.in_ok-seen.ensures.stays in
    rw (p.1, p.2) (failed_after _ _ _ _ _ _
    (λ s. g.met.S.Shown.stays_on c.args.shown.now c.compare_all.new.shown c.find_more.new.shown before s)
    (λ e f. g.met.S.Shown.fails_on e c.args.shown.now c.compare_all.new.shown c.find_more.new.shown before f)
    c.in_err-more.ensures.fails)
