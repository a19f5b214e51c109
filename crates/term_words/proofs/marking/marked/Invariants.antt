use Rattle.std.proofs.Common.{◌≡◌, length, take}
use Rattle.term_words.specs.Private.{all_in, AreMarked}
use Rattle.term_words.proofs.marking.marked.Given as goal

abbrev pub invariant-loop-number : goal.invariant-loop-number
invariant-loop-number l = AreMarked (all_in l.split.words) (take l.number l.wanted) (length l.split.sizes.rows.now) l.marks.items × (length l.next.items ≡ length l.split.sizes.rows.now)
