use Rattle.std.proofs.Common.{arith}
use Rattle.history_store.proofs.BroughtRows.{receipt_more, receipt_same}
use Rattle.history_store.proofs.brought.receipt_in.Goals as goal
use Rattle.history_store.proofs.brought.receipt_in.Goals.{then-place-number, else-place-number}

pub loop-place-preserved : goal.loop-place-preserved
loop-place-preserved c =
    let a = c.args in
    let p = c.place-item.result in
    let few = c.loop-place.invariant.few in
    elim c.if-place-number.branch [
      | then-place-number w ↦ record {
        receipt = rw (w.new-is, w.latest-is, w.later-latest.ensures)
            (receipt_more a.number a.places.now c.loop-place.place-index p c.loop-place.new c.loop-place.latest c.loop-place-test.true c.place-item.is w.if-place-number.true c.loop-place.invariant.receipt);
        few = omega (arith, few, w.new-is);
      }
      | else-place-number w ↦ record {
        receipt = rw (w.new-is, w.latest-is)
            (receipt_same a.number a.places.now c.loop-place.place-index p (record { new = c.loop-place.new; latest = c.loop-place.latest }) c.loop-place-test.true c.place-item.is w.if-place-number.false c.loop-place.invariant.receipt);
        few = omega (arith, few, w.new-is);
      }
    ]
