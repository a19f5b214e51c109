-- Questions that are answered from the words of terms.
use Rattle.std.specs.Prelude.{Bool, true, false}
use Rattle.question_model.specs.Questions.{RowQuestion, Words as AskWords}
use Rattle.segment_index.specs.declared.words.Words.{Words}
use Rattle.segment_index.specs.declared.words.Words.TheVariants as words

-- whether the question is for words, and words are left out
abbrev pub lacks_words : RowQuestion → Words → Bool
lacks_words (AskWords date wanted_type offset limit text) words.LeftOut = true
lacks_words _ _ = false
