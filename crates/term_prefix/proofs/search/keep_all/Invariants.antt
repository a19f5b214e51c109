use Rattle.std.proofs.Common.{List, take}
use Rattle.history_model.specs.declared.stamped.StampedRow.{StampedRow}
use Rattle.as_of_index.specs.Places.{Lists}
use Rattle.as_of_index.specs.Private.Postings.{numbered}
use Rattle.term_prefix.specs.Pushed.{ArePosted}
use Rattle.term_prefix.specs.Private.{AreKept, begun}
use Rattle.term_prefix.proofs.search.keep_all.Given as goal

abbrev pub invariant-loop-segment : goal.invariant-loop-segment
invariant-loop-segment l = (rows : List (List StampedRow)) → Lists l.index rows → ArePosted rows l.lists → AreKept rows l.search (begun rows l.prefix (numbered 0 (take l.segment l.lists))) l.kept.items
