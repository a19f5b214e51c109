use Rattle.std.proofs.Common.{take}
use Rattle.disk_model.specs.Private.Replay.{IsFilledIn}
use Rattle.disk_model.proofs.memory.replay.fill_all.Given as goal

abbrev pub invariant-loop-range : goal.invariant-loop-range
invariant-loop-range l = IsFilledIn (take l.range-index l.ranges) l.byte l.initial.image l.image
