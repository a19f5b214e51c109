use Rattle.term_words.proofs.Splits.{words_are_behind}
use Rattle.term_words.proofs.laws.words_are_behind.Goals as goal

pub returns : goal.returns
returns c = words_are_behind
