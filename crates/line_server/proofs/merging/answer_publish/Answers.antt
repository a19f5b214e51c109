use Rattle.std.proofs.lemmas.Result.{err_from_is_err_and}
use Rattle.store_life.proofs.Made.{publish_made}
use Rattle.line_server.proofs.MergeTold.{published, not_published}
use Rattle.line_server.proofs.merging.answer_publish.Goals as goal

pub returns-in_err-merge_publish : goal.returns-in_err-merge_publish
returns-in_err-merge_publish g c =
    let p = err_from_is_err_and c.from_residual.result c.from_residual.ensures.1 in
    let e = c.in_err-merge_publish.ensures in
    let view = g.D.Disk.view in
    let made = publish_made view c.args.store.now c.merge_publish.new.self e.history e.crash e.meters.counts.honesty in
    rw (p.1, p.2) (not_published view c.args.store.now c.merge_publish.new.self c.in_err-merge_publish.field-0.0 made (e.meters.counts.bytes_read, e.meters.counts.other_calls) e.answer e.meters.counts.failures e.refused)

pub returns : goal.returns
returns g c =
    let e = c.in_ok-merge_publish.ensures in
    let view = g.D.Disk.view in
    let made = publish_made view c.args.store.now c.merge_publish.new.self e.history e.crash e.meters.counts.honesty in
    published view c.args.store.now c.merge_publish.new.self c.reply_done.result made (e.meters.counts.bytes_read, e.meters.counts.other_calls) e.answer e.history e.meters.counts.failures c.reply_done.ensures
