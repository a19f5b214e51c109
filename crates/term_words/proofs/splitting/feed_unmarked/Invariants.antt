use Rattle.std.proofs.Common.{take}
use Rattle.std.specs.List.{filter}
use Rattle.word_model.specs.Words.{is_no_mark}
use Rattle.term_words.specs.Private.{Follows}
use Rattle.term_words.proofs.splitting.feed_unmarked.Given as goal

abbrev pub invariant-loop-part : goal.invariant-loop-part
invariant-loop-part l = Follows l.fn.text.items l.fn.keys.items l.fn.start (filter is_no_mark (take l.part-index l.parts)) l.text.items l.keys.items l.next
