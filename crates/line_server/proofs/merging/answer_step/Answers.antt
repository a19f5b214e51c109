use Rattle.std.proofs.Common.{Ok, Err}
use Rattle.std.proofs.lemmas.Result.{err_from_is_err_and}
use Rattle.store_life.proofs.Made.{step_made}
use Rattle.line_server.proofs.MergeTold.{stepped, not_stepped}
use Rattle.line_server.proofs.merging.answer_step.Goals as goal

pub returns-in_err-left : goal.returns-in_err-left
returns-in_err-left g c =
    let p = err_from_is_err_and c.from_residual.result c.from_residual.ensures.1 in
    let e = c.in_err-left.ensures in
    let view = g.D.Disk.view in
    let made = step_made view (Err c.in_err-left.field-0.0) c.args.rows c.args.store.now c.merge_step.new.self e.answer e.crash e.meters.counts.honesty in
    rw (p.1, p.2) (not_stepped view c.args.store.now c.merge_step.new.self c.args.rows c.in_err-left.field-0.0 made e.meters.looked_up (e.meters.counts.bytes_read, e.meters.counts.other_calls) e.answer e.undamaged e.meters.counts.failures e.refused)

pub returns : goal.returns
returns g c =
    let e = c.in_ok-left.ensures in
    let view = g.D.Disk.view in
    let made = step_made view (Ok c.in_ok-left.left) c.args.rows c.args.store.now c.merge_step.new.self e.answer e.crash e.meters.counts.honesty in
    stepped view c.args.store.now c.merge_step.new.self c.args.rows c.in_ok-left.left c.reply_number.result made e.meters.looked_up (e.meters.counts.bytes_read, e.meters.counts.other_calls) e.answer e.meters.counts.failures c.reply_number.ensures
