use Rattle.std.proofs.Common.{List, take}
use Rattle.history_model.specs.declared.stamped.StampedRow.{StampedRow}
use Rattle.as_of_index.specs.Places.{Lists}
use Rattle.links.specs.Private.{Takes}
use Rattle.links.specs.Private.Asking.{GivesEnd}
use Rattle.links.proofs.incoming.add_ends.Given as goal

abbrev pub invariant-loop-p : goal.invariant-loop-p
invariant-loop-p l = (lists : List (List StampedRow)) → Lists l.index lists → Takes (GivesEnd lists l.asked l.segment) (take l.p-index l.postings) l.fn.ids.items l.ids.items
