use Rattle.std.proofs.Common.{◌∙◌}
use Rattle.std.specs.Prelude.{None}
use Rattle.std.proofs.lemmas.Result.{err_from_is_err_and}
use Rattle.history_model.specs.Queries.{page}
use Rattle.snapshot_check.proofs.Paging.{same_last}
use Rattle.snapshot_check.proofs.Taking.{adds_page}
use Rattle.snapshot_check.proofs.more.add_page.Goals as goal

pub returns-clause-last : goal.returns-clause-last
returns-clause-last g c =
    let at = g.S.Shown.at_date c.args.shown.now in
    let reads = g.S.Shown.reads c.args.shown.now in
    c.in_ok-last.ensures.last ∙ same_last reads (g.met.S.Shown.keyed c.args.shown.now) c.in_ok-read.read.items (page c.args.kind at.date c.args.after 1000 at.rows) c.in_ok-read.ensures.found None

pub returns-clause-adds : goal.returns-clause-adds
returns-clause-adds g c = λ rows sorted.
    let at = g.S.Shown.at_date c.args.shown.now in
    let reads = g.S.Shown.reads c.args.shown.now in
    adds_page reads rows c.in_ok-read.read.items (page c.args.kind at.date c.args.after 1000 at.rows) c.args.limit c.args.more.now c.add_rows.new.more c.in_ok-read.ensures.found (c.in_ok-last.ensures.adds rows sorted)

pub returns-in_err-read-clause-fails : goal.returns-in_err-read-clause-fails
returns-in_err-read-clause-fails g c =
    let p = err_from_is_err_and c.from_residual.result c.from_residual.ensures.1 in
    rw (p.1, p.2) c.in_err-read.ensures.fails

pub returns-in_err-last-clause-fails : goal.returns-in_err-last-clause-fails
returns-in_err-last-clause-fails g c =
    let p = err_from_is_err_and c.from_residual-in_err-last.result c.from_residual-in_err-last.ensures.1 in
    rw (p.1, p.2) c.in_ok-read.ensures.stays
