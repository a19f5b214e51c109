use Rattle.term_words.proofs.Posting.{posted_words_more}
use Rattle.term_words.proofs.laws.posted_words_more.Goals as goal

pub returns : goal.returns
returns c = posted_words_more
