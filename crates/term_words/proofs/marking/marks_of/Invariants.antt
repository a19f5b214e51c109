use Rattle.std.proofs.Common.{◌≡◌, length, map, take}
use Rattle.term_words.specs.Private.{EachMarked}
use Rattle.term_words.proofs.marking.marks_of.Given as goal

abbrev pub invariant-loop-split : goal.invariant-loop-split
invariant-loop-split l = (length l.marks.items ≡ l.split-index) × EachMarked (take l.split-index l.splits) l.wanted (map (λ m. m.items) l.marks.items)
