use Rattle.std.proofs.Common.{take}
use Rattle.term_words.specs.Private.{AreSplit}
use Rattle.term_words.proofs.sealed.splits_of.Given as goal

abbrev pub invariant-loop-list : goal.invariant-loop-list
invariant-loop-list l = AreSplit (take l.list-index l.lists) l.all.items
