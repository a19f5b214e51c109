use Rattle.std.proofs.Common.{map, take}
use Rattle.term_words.specs.Posted.{keyed}
use Rattle.term_words.specs.Laid.{ArePushed}
use Rattle.term_words.specs.Private.{IsPostedWith}
use Rattle.term_words.proofs.postings.post_each.Given as goal

abbrev pub invariant-loop-number : goal.invariant-loop-number
invariant-loop-number l = ArePushed l.fn.text.items l.fn.keys.items l.fn.pushed.items → IsPostedWith l.fn.text.items l.fn.keys.items l.fn.pushed.items (map (keyed l.row) (take l.number l.words)) l.text.items l.keys.items l.pushed.items
