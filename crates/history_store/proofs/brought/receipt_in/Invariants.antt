use Rattle.std.proofs.Common.{◌≤◌, take}
use Rattle.history_store.specs.Private.{IsReceiptOf}
use Rattle.history_store.proofs.brought.receipt_in.Given as goal

-- of the places so far
abbrev pub invariant-loop-place : goal.invariant-loop-place
invariant-loop-place l = record {
  receipt : IsReceiptOf l.number (take l.place-index l.places) (record { new = l.new; latest = l.latest });
  few : l.new ≤ l.place-index;
}
