use Rattle.std.proofs.Common.{take}
use Rattle.term_words.specs.Private.{AddsMarks}
use Rattle.term_words.proofs.marking.mark_ranks.Given as goal

abbrev pub invariant-loop-rank : goal.invariant-loop-rank
invariant-loop-rank l = AddsMarks l.fn.marks.items l.among (take l.rank-index l.ranks) l.marks.items
