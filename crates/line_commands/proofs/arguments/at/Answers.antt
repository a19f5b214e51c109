use Rattle.std.proofs.Common.{Option, List, ℕ}
use Rattle.std.specs.Prelude.{option_map}
use Rattle.std.specs.Borrow.{Bor}
use Rattle.question_model.specs.Questions.{question_of}
use Rattle.line_commands.proofs.AtForms.{none_commanded, at_uncut, at_no_number, at_no_word, at_no_question, at_found}
use Rattle.line_commands.proofs.arguments.at.Goals as goal

abbrev given : Option (Bor (List ℕ)) → Option (List ℕ)
given rest = option_map (λ text. text.now) rest

pub returns-in_err-number : goal.returns-in_err-number
returns-in_err-number c = none_commanded _ _ c.from_residual.result c.from_residual.ensures (at_uncut _ c.in_err-number.ensures)

pub returns-in_err-number-2 : goal.returns-in_err-number-2
returns-in_err-number-2 c = none_commanded _ _ c.from_residual-in_err-number-2.result c.from_residual-in_err-number-2.ensures (at_no_number _ _ _ c.in_ok-number.ensures.0 c.in_ok-number.ensures.1 c.in_err-number-2.ensures)

pub returns-in_err-word : goal.returns-in_err-word
returns-in_err-word c =
    none_commanded _ _ c.from_residual-in_err-word.result c.from_residual-in_err-word.ensures
    (at_no_word _ _ _ c.in_ok-number.ensures.0 c.in_ok-number.ensures.1 c.first_word.result.0.now (given c.first_word.result.1) c.first_word.ensures.word c.first_word.ensures.whole c.in_err-word.ensures)

pub returns-in-None : goal.returns-in-None
returns-in-None c =
    at_no_question _ _ _ c.in_ok-number.ensures.0 c.in_ok-number.ensures.1 c.first_word.result.0.now (given c.first_word.result.1) c.first_word.ensures.word c.first_word.ensures.whole
    c.in_ok-word.word c.in_ok-word.ensures c.in-None.ensures

pub returns-in-Some : goal.returns-in-Some
returns-in-Some c =
    at_found _ _ _ c.in_ok-number.ensures.0 c.in_ok-number.ensures.1 c.first_word.result.0.now (given c.first_word.result.1) c.first_word.ensures.word c.first_word.ensures.whole
    c.in_ok-word.word c.in_ok-word.ensures c.in_ok-number-2.number (question_of c.in-Some.question) c.in_ok-number-2.ensures.0 c.in_ok-number-2.ensures.1 c.in-Some.ensures
