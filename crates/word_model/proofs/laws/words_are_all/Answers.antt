use Rattle.word_model.proofs.Found as found
use Rattle.word_model.proofs.laws.words_are_all.Goals as goal

pub returns : goal.returns
returns c = found.words_are_all
