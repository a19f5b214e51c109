use Rattle.std.proofs.Common.{map, take}
use Rattle.std.specs.Char.{to_ascii_lowercase}
use Rattle.term_words.specs.Private.{Follows}
use Rattle.term_words.proofs.splitting.feed_all_ascii.Given as goal

abbrev pub invariant-loop-byte : goal.invariant-loop-byte
invariant-loop-byte l = Follows l.fn.text.items l.fn.keys.items l.fn.start (map to_ascii_lowercase (take l.byte-index l.term)) l.text.items l.keys.items l.next
