use Rattle.std.specs.Prelude.{map}
use Rattle.std.proofs.Common.{take}
use Rattle.disk_model.specs.Change.{replayed, made}
use Rattle.disk_model.specs.Entry.{change_of}
use Rattle.disk_model.specs.Private.Replay.{Shows}
use Rattle.disk_model.proofs.memory.replay.Replay.of.Given as goal

abbrev pub invariant-loop-entry : goal.invariant-loop-entry
invariant-loop-entry l = Shows l.moment (replayed (made l.first) (map (change_of l.calls.bytes.items) (take l.entry-index l.entry-items))).state
