use Rattle.word_model.proofs.Found as found
use Rattle.word_model.proofs.laws.found_by_a_beginning.Goals as goal

pub returns : goal.returns
returns c = found.found_by_a_beginning
