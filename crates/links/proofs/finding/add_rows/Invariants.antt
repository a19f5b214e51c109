use Rattle.std.proofs.Common.{List, take}
use Rattle.history_model.specs.declared.stamped.StampedRow.{StampedRow}
use Rattle.as_of_index.specs.Places.{Lists}
use Rattle.links.specs.Private.{Takes}
use Rattle.links.specs.Private.Asking.{GivesPlace}
use Rattle.links.proofs.finding.add_rows.Given as goal

abbrev pub invariant-loop-p : goal.invariant-loop-p
invariant-loop-p l = (lists : List (List StampedRow)) → Lists l.index lists → Takes (GivesPlace lists l.asked l.segment) (take l.p-index l.postings) l.fn.kept.items l.kept.items
