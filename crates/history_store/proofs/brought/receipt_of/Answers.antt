use Rattle.std.proofs.Common.{arith}
use Rattle.history_store.proofs.BroughtRows.{receipt_list, receipt_fits}
use Rattle.history_store.proofs.brought.receipt_of.Goals as goal

pub overflow_add-new : goal.overflow_add-new
overflow_add-new c =
    let few = receipt_fits c.args.number c.args.index.now c.loop-i.i c.list.result.now c.loop-i.new c.loop-i.latest c.receipt_in-brought.result c.list.ensures c.loop-i.invariant c.receipt_in-brought.ensures in
    let room = c.requires in
    omega (arith, few, room)

pub loop-i-preserved : goal.loop-i-preserved
loop-i-preserved c =
    rw c.later-latest.ensures (receipt_list c.args.number c.args.index.now c.loop-i.i c.list.result.now c.loop-i.new c.loop-i.latest c.receipt_in-brought.result c.list.ensures c.loop-i.invariant c.receipt_in-brought.ensures)
