use Rattle.std.proofs.Common.{Ok, Err}
use Rattle.std.proofs.lemmas.Result.{err_from_is_err_and}
use Rattle.store_life.proofs.Made.{trim_made}
use Rattle.line_server.proofs.MergeTold.{trimmed, not_trimmed}
use Rattle.line_server.proofs.merging.answer_trim.Goals as goal

pub returns-in_err-_bytes : goal.returns-in_err-_bytes
returns-in_err-_bytes g c =
    let p = err_from_is_err_and c.from_residual.result c.from_residual.ensures.1 in
    let e = c.in_err-_bytes.ensures in
    let view = g.D.Disk.view in
    let made = trim_made view (Err c.in_err-_bytes.field-0.0) c.args.store.now c.trim.new.self e.answer e.crash e.meters.counts.honesty in
    rw (p.1, p.2) (not_trimmed view c.args.store.now c.trim.new.self c.in_err-_bytes.field-0.0 made (e.meters.counts.bytes_read, e.meters.counts.other_calls) e.answer e.meters.counts.failures)

pub returns : goal.returns
returns g c =
    let e = c.in_ok-_bytes.ensures in
    let view = g.D.Disk.view in
    let made = trim_made view (Ok c.in_ok-_bytes._bytes) c.args.store.now c.trim.new.self e.answer e.crash e.meters.counts.honesty in
    trimmed view c.args.store.now c.trim.new.self c.in_ok-_bytes._bytes c.reply_done.result made (e.meters.counts.bytes_read, e.meters.counts.other_calls) e.answer e.meters.counts.failures e.now c.reply_done.ensures
