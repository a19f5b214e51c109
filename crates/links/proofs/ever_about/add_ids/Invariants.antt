use Rattle.std.proofs.Common.{List, take}
use Rattle.history_model.specs.declared.stamped.StampedRow.{StampedRow}
use Rattle.as_of_index.specs.Places.{Lists}
use Rattle.links.specs.Private.{GivesId, Takes}
use Rattle.links.proofs.ever_about.add_ids.Given as goal

-- those of the subjects so far
abbrev pub invariant-loop-x : goal.invariant-loop-x
invariant-loop-x l = (lists : List (List StampedRow)) → Lists l.index lists → Takes (GivesId lists l.pin l.segment) (take l.x-index l.subjects) l.fn.ids.items l.ids.items
