use Rattle.word_model.proofs.Letters.{has_some_word}
use Rattle.word_model.proofs.texts.has_word.Goals as goal

pub returns : goal.returns
returns c = has_some_word c.args.text.now c.has_any_letter.result c.has_any_letter.ensures
