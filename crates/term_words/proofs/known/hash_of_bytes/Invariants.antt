use Rattle.std.proofs.Common.{length}
use Rattle.term_words.proofs.known.hash_of_bytes.Given as goal

abbrev pub decreases-loop-eight : goal.decreases-loop-eight
decreases-loop-eight l = length l.rest
