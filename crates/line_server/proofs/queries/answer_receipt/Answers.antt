use Rattle.std.proofs.lemmas.Result.{err_from_is_err_and}
use Rattle.line_server.proofs.Responding.{import_told, import_closed, import_unseen}
use Rattle.line_server.proofs.queries.answer_receipt.Goals as goal

pub returns-then-number-pin : goal.returns-then-number-pin
returns-then-number-pin g c = import_unseen g.D.Disk.view c.args.number c.args.pin c.args.store.now c.if-number-pin.true

pub returns-in_err-receipt : goal.returns-in_err-receipt
returns-in_err-receipt g c =
    let p = err_from_is_err_and c.from_residual.result c.from_residual.ensures.1 in
    let e = c.in_err-receipt.ensures in
    rw (p.1, p.2) (import_closed g.D.Disk.view c.args.number c.args.pin c.args.store.now c.in_err-receipt.field-0.0 c.if-number-pin.false e.refused)

pub returns : goal.returns
returns g c =
    let e = c.in_ok-receipt.ensures in
    import_told g.D.Disk.view c.args.number c.args.pin c.args.store.now c.in_ok-receipt.receipt.new c.in_ok-receipt.receipt.latest c.reply_receipt.result c.if-number-pin.false e.found.0 e.found.1 c.reply_receipt.ensures
