use Rattle.std.proofs.Common.{take}
use Rattle.history_model.specs.InOrder.{joined}
use Rattle.history_store.specs.Private.{IsReceiptOf}
use Rattle.history_store.proofs.brought.receipt_of.Given as goal

-- of the lists so far
abbrev pub invariant-loop-i : goal.invariant-loop-i
invariant-loop-i l = IsReceiptOf l.number (joined (take l.i l.index)) (record { new = l.new; latest = l.latest })
