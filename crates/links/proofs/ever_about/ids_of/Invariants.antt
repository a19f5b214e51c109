use Rattle.std.proofs.Common.{List, take}
use Rattle.history_model.specs.declared.stamped.StampedRow.{StampedRow}
use Rattle.as_of_index.specs.Places.{Lists}
use Rattle.as_of_index.specs.Private.Postings.{numbered}
use Rattle.links.specs.Private.{subjects_in, AreIdsTaken}
use Rattle.links.proofs.ever_about.ids_of.Given as goal

abbrev pub invariant-loop-segment : goal.invariant-loop-segment
invariant-loop-segment l = (lists : List (List StampedRow)) → Lists l.index lists → AreIdsTaken lists l.kind l.pin l.id (numbered 0 (subjects_in (take l.segment l.links))) l.ids.items
