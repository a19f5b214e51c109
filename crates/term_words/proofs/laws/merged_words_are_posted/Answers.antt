use Rattle.term_words.proofs.Posting.{merged_words_are_posted}
use Rattle.term_words.proofs.laws.merged_words_are_posted.Goals as goal

pub returns : goal.returns
returns c = merged_words_are_posted
