use Rattle.std.proofs.Common.{List, take}
use Rattle.history_model.specs.declared.stamped.StampedRow.{StampedRow}
use Rattle.as_of_index.specs.Places.{Lists}
use Rattle.as_of_index.specs.Private.Postings.{numbered}
use Rattle.links.specs.Private.{postings_in}
use Rattle.links.specs.Private.Asking.{GivesEnd, AreGiven}
use Rattle.links.proofs.incoming.find_ends.Given as goal

abbrev pub invariant-loop-segment : goal.invariant-loop-segment
invariant-loop-segment l = (lists : List (List StampedRow)) → Lists l.index lists → AreGiven (GivesEnd lists l.asked) (numbered 0 (postings_in (take l.segment l.links))) l.ids.items
