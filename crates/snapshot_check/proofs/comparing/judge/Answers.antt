use Rattle.std.proofs.Common.{refl, subst}
use Rattle.std.proofs.lemmas.Bool.{both_ways}
use Rattle.snapshot_check.specs.Differences.{shown_of}
use Rattle.snapshot_check.proofs.Taking.{none_read, some_read}
use Rattle.snapshot_check.proofs.comparing.judge.Goals as goal

pub returns-in-None-clause-verdict : goal.returns-in-None-clause-verdict
returns-in-None-clause-verdict g c =
    let reads = g.S.Shown.reads c.args.shown.now in
    let at = g.S.Shown.at_date c.args.shown.now in
    (none_read reads (shown_of at c.args.row) (rw c.in-None.is at c.in_ok-look.ensures.found), refl)

pub returns-then-is_same-clause-verdict : goal.returns-then-is_same-clause-verdict
returns-then-is_same-clause-verdict g c =
    let reads = g.S.Shown.reads c.args.shown.now in
    let at = g.S.Shown.at_date c.args.shown.now in
    let found = some_read reads (shown_of at c.args.row) c.in-Some.other (rw c.in-Some.is at c.in_ok-look.ensures.found) in
    record { wanted = found.0; component = found.1; read = subst (λ r. reads r found.0) (c.is_same.ensures.0 c.if-is_same.true) found.2 }

pub returns-else-is_same-clause-verdict : goal.returns-else-is_same-clause-verdict
returns-else-is_same-clause-verdict g c =
    let reads = g.S.Shown.reads c.args.shown.now in
    let at = g.S.Shown.at_date c.args.shown.now in
    let found = some_read reads (shown_of at c.args.row) c.in-Some.other (rw c.in-Some.is at c.in_ok-look.ensures.found) in
    (refl, record { wanted = found.0; component = found.1; read = found.2; differs = λ same. both_ways c.is_same.result c.if-is_same.false (c.is_same.ensures.1 same) })
