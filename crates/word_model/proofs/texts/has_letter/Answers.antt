use Rattle.std.proofs.Common.{sym, ap, ◌∙◌}
use Rattle.std.specs.Prelude.{◌&&◌}
use Rattle.std.specs.List.{list_any}
use Rattle.unicode_normalization.specs.Decompose.{decompose_canonical}
use Rattle.word_model.specs.Words.{is_no_mark, is_of_word}
use Rattle.word_model.proofs.Letters.{any_no_mark}
use Rattle.word_model.proofs.texts.has_letter.Goals as goal

pub returns : goal.returns
returns c =
    c.have_letter.ensures
    ∙ ap (list_any (λ d. is_no_mark d && is_of_word d)) c.decomposition.ensures.value
    ∙ sym (any_no_mark (decompose_canonical c.args.c))
