use Rattle.term_words.proofs.Posting.{posted_words_merged}
use Rattle.term_words.proofs.laws.posted_words_merged.Goals as goal

pub returns : goal.returns
returns c = posted_words_merged
