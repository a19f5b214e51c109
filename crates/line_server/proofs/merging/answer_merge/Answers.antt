use Rattle.std.proofs.Common.{Ok, Err}
use Rattle.std.proofs.lemmas.Result.{err_from_is_err_and}
use Rattle.store_life.proofs.Made.{begin_made}
use Rattle.line_server.proofs.MergeTold.{begun, not_begun}
use Rattle.line_server.proofs.merging.answer_merge.Goals as goal

pub returns-in_err-left : goal.returns-in_err-left
returns-in_err-left g c =
    let p = err_from_is_err_and c.from_residual.result c.from_residual.ensures.1 in
    let e = c.in_err-left.ensures in
    let view = g.D.Disk.view in
    let made = begin_made view (Err c.in_err-left.field-0.0) c.args.store.now c.merge_begin.new.self e.answer e.disk e.closed e.acknowledged in
    rw (p.1, p.2) (not_begun view c.args.store.now c.merge_begin.new.self c.in_err-left.field-0.0 made e.disk e.answer)

pub returns : goal.returns
returns g c =
    let e = c.in_ok-left.ensures in
    let view = g.D.Disk.view in
    let made = begin_made view (Ok c.in_ok-left.left) c.args.store.now c.merge_begin.new.self e.answer e.disk e.closed e.acknowledged in
    begun view c.args.store.now c.merge_begin.new.self c.in_ok-left.left c.reply_number.result made e.disk e.answer c.reply_number.ensures
