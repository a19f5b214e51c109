use Rattle.std.proofs.Common.{List, take}
use Rattle.history_model.specs.declared.stamped.StampedRow.{StampedRow}
use Rattle.as_of_index.specs.Places.{Lists}
use Rattle.as_of_index.specs.Private.Postings.{numbered}
use Rattle.links.specs.Private.{subjects_in, AreRowsTaken}
use Rattle.links.proofs.subjects.chosen_all.Given as goal

abbrev pub invariant-loop-segment : goal.invariant-loop-segment
invariant-loop-segment l = (lists : List (List StampedRow)) → Lists l.index lists → AreRowsTaken lists l.kind l.as_of l.id (numbered 0 (subjects_in (take l.segment l.links))) l.kept.items
