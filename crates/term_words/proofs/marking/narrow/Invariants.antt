use Rattle.std.proofs.Common.{length, take}
use Rattle.std.specs.Prelude.{flat_map}
use Rattle.term_words.specs.Laid.{rows_of}
use Rattle.term_words.specs.Private.{AddsMarks}
use Rattle.term_words.proofs.Marks.{zeros}
use Rattle.term_words.proofs.marking.narrow.Given as goal

abbrev pub invariant-loop-e : goal.invariant-loop-e
invariant-loop-e l = AddsMarks (zeros (length l.among)) l.among (flat_map (rows_of l.words.rows.now) (take l.e-index l.those)) l.marks.items
