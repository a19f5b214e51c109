use Rattle.std.proofs.Common.{take}
use Rattle.history_model.specs.InOrder.{joined}
use Rattle.history_store.specs.Private.{IsLatest, place_time}
use Rattle.history_store.proofs.latest.latest_time.Given as goal

-- of the lists so far
abbrev pub invariant-loop-i : goal.invariant-loop-i
invariant-loop-i l = IsLatest place_time l.latest (joined (take l.i l.index))
