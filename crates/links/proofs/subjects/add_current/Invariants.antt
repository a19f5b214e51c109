use Rattle.std.proofs.Common.{List, take}
use Rattle.history_model.specs.declared.stamped.StampedRow.{StampedRow}
use Rattle.as_of_index.specs.Places.{Lists}
use Rattle.links.specs.Private.{GivesRow, Takes}
use Rattle.links.proofs.subjects.add_current.Given as goal

abbrev pub invariant-loop-x : goal.invariant-loop-x
invariant-loop-x l = (lists : List (List StampedRow)) → Lists l.index lists → Takes (GivesRow lists l.as_of l.segment) (take l.x-index l.subjects) l.fn.kept.items l.kept.items
