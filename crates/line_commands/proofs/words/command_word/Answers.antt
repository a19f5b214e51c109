use Rattle.line_commands.specs.declared.words.Word.{Word}
use Rattle.std.proofs.Common.{◌≡◌, ◌≢◌, ℕ, List, Option, Some, None, MatchOption}
use Rattle.line_commands.specs.Spelling.{word_of_question}
use Rattle.question_model.specs.Questions.{Question}
use Rattle.line_commands.specs.Commands.{Command, word_of}
use Rattle.line_commands.specs.Private.{IsOther, text_of_word}
use Rattle.line_commands.proofs.FirstWords.{no_command}
use Rattle.line_commands.proofs.words.command_word.Goals as goal

-- what was found among the other commands, where there is no question
named : (text : List ℕ) (r : Option Word) → ((question : Question) → text ≢ word_of_question question) → MatchOption r ((command : Command) → IsOther command → text ≢ word_of command) (λ w. text ≡ text_of_word w)
    → MatchOption r ((command : Command) → text ≢ word_of command) (λ w. text ≡ text_of_word w)
named text (Some word) none h = h
named text None none h = no_command text none h

pub returns-in-None : goal.returns-in-None
returns-in-None c = named c.args.text.now c.other_word.result c.in-None.ensures c.other_word.ensures
