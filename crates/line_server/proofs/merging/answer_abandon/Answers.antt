use Rattle.std.proofs.Common.{Ok, Err}
use Rattle.std.proofs.lemmas.Result.{err_from_is_err_and}
use Rattle.store_life.proofs.Made.{abandon_made}
use Rattle.line_server.proofs.MergeTold.{abandoned, not_abandoned}
use Rattle.line_server.proofs.merging.answer_abandon.Goals as goal

pub returns-in_err-merge_abandon : goal.returns-in_err-merge_abandon
returns-in_err-merge_abandon g c =
    let p = err_from_is_err_and c.from_residual.result c.from_residual.ensures.1 in
    let e = c.in_err-merge_abandon.ensures in
    let view = g.D.Disk.view in
    let made = abandon_made view (Err c.in_err-merge_abandon.field-0.0) c.args.store.now c.merge_abandon.new.self e.answer e.disk e.closed e.acknowledged in
    rw (p.1, p.2) (not_abandoned view c.args.store.now c.merge_abandon.new.self c.in_err-merge_abandon.field-0.0 made e.disk e.answer)

pub returns : goal.returns
returns g c =
    let e = c.in_ok-merge_abandon.ensures in
    let view = g.D.Disk.view in
    let made = abandon_made view (Ok tt) c.args.store.now c.merge_abandon.new.self e.answer e.disk e.closed e.acknowledged in
    abandoned view c.args.store.now c.merge_abandon.new.self c.reply_done.result made e.disk e.answer c.reply_done.ensures
