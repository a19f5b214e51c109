use Rattle.word_model.proofs.Found as found
use Rattle.word_model.proofs.laws.terms_are_found_by_words.Goals as goal

pub returns : goal.returns
returns c = found.terms_are_found_by_words
