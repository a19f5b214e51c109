use Rattle.std.specs.Prelude.{flat_map}
use Rattle.word_model.specs.Words.{unmarked}
use Rattle.term_words.specs.Private.{Follows}
use Rattle.term_words.proofs.splitting.feed_all.Given as goal

abbrev pub invariant-loop-c : goal.invariant-loop-c
invariant-loop-c l = Follows l.fn.text.items l.fn.keys.items l.fn.start (flat_map unmarked l.yielded) l.text.items l.keys.items l.next
