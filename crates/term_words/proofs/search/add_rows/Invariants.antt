use Rattle.std.proofs.Common.{List}
use Rattle.history_model.specs.declared.stamped.StampedRow.{StampedRow}
use Rattle.as_of_index.specs.Places.{Lists}
use Rattle.term_words.specs.Private.{AddsRows, picked}
use Rattle.term_words.proofs.search.add_rows.Given as goal

abbrev pub invariant-loop-number : goal.invariant-loop-number
invariant-loop-number l = (lists : List (List StampedRow)) → Lists l.index lists → AddsRows lists l.as_of l.group.segment l.group.len (picked l.group.rows.now l.yielded) l.fn.kept.items l.kept.items
