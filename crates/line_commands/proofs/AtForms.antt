-- What the text behind AT is, and a question as a command.
use Rattle.std.proofs.Common.{◌≡◌, ◌≢◌, ℕ, ◌<◌, ◌^◌, Option, Some, None, List, ◌∷◌, ◌++◌, refl, sym, ap, ◌∙◌, arith}
use Rattle.std.specs.Prelude.{decimal, codes}
use Rattle.std.specs.Str.{bytes_eq}
use Rattle.std.proofs.lemmas.Bool.{false≢true}
use Rattle.std.proofs.lemmas.Option.{none-some}
use Rattle.line_commands.specs.declared.command.Command.{Command as RustCommand}
use Rattle.line_commands.specs.declared.words.QuestionWord.{QuestionWord}
use Rattle.line_commands.specs.Spelling.{word_of_question, SpellsQuestion}
use Rattle.question_model.specs.Questions.{Question}
use Rattle.line_commands.specs.Commands.{Command, Ask, At}
use Rattle.line_commands.specs.Requests.{with_rest}
use Rattle.line_commands.specs.Private.{IsWord, example, text_of_question, behind, IsSpelledQuestion, IsSpelled, IsReadAs}
use Rattle.line_commands.proofs.FirstWords.{decimal_word, question_is_word, no_space, peel, one_head, spaced_is, not_asked, told}

-- ---- a question as a command

pub asked : (word : List ℕ) (rest : Option (List ℕ)) (question : Question) → IsSpelledQuestion word rest question → IsSpelled word rest (Ask question)
asked word rest question s = record { word_is = s.word_is; arguments = s.arguments; spelled = s.spelled; rest_is = s.rest_is }

pub none_asked : (w : QuestionWord) (rest : Option (List ℕ)) → ((question : Question) → IsSpelledQuestion (text_of_question w) rest question → ⊥) → (command : Command) → IsSpelled (text_of_question w) rest command → ⊥
none_asked w rest none (Ask question) s = none question (record { word_is = s.word_is; arguments = s.arguments; spelled = s.spelled; rest_is = s.rest_is })
none_asked w rest none command s = not_asked (example w) command tt (sym s.word_is)

-- ---- AT

pub none_commanded : (word : List ℕ) (rest : Option (List ℕ)) (r : Option RustCommand) → r ≡ None → ((command : Command) → IsSpelled word rest command → ⊥) → IsReadAs word rest r
none_commanded word rest None e h = h
none_commanded word rest (Some x) e h = absurd (none-some x (sym e))

record AtForm (text : List ℕ) : Type 0 where
  number : ℕ
  question : Question
  arguments : List (List ℕ)
  high : number < 2 ^ 32
  spells : SpellsQuestion question arguments
  whole : text ≡ decimal number ++ 32 ∷ with_rest (word_of_question question) (behind arguments)

at_form : (text : List ℕ) (command : Command) → IsSpelled (codes "AT") (Some text) command → AtForm text
at_form text (At number question) s = record {
  number = number;
  question = question;
  arguments = s.spelled.0;
  spells = s.spelled.1;
  high = s.spelled.2;
  whole = told _ _ text _ s.rest_is s.spelled.3 refl ∙ ap (λ (t : List ℕ). decimal number ++ 32 ∷ t) (spaced_is (word_of_question question) s.spelled.0);
}
at_form text (Ask question) s = absurd (not_asked question (At 0 question) tt s.word_is)
at_form text c s = absurd (false≢true (ap (bytes_eq (codes "AT")) s.word_is))

pub at_uncut : (text : List ℕ) → IsWord text → (command : Command) → IsSpelled (codes "AT") (Some text) command → ⊥
at_uncut text free command s = let f = at_form text command s in no_space text (decimal f.number) _ free f.whole

module _ (text a x : List ℕ) (is_word : IsWord a) (cut : text ≡ a ++ 32 ∷ x) where
  at_apart : (f : AtForm text) → (a ≡ decimal f.number) × (x ≡ with_rest (word_of_question f.question) (behind f.arguments))
  at_apart f = let high = f.high in peel a (decimal f.number) _ _ is_word (decimal_word f.number (omega arith)) (sym cut ∙ f.whole)

  pub at_no_number : ((n : ℕ) → n < 2 ^ 32 → a ≢ decimal n) → (command : Command) → IsSpelled (codes "AT") (Some text) command → ⊥
  at_no_number none command s = let f = at_form text command s in none f.number f.high (at_apart f).0

  module _ (word : List ℕ) (more : Option (List ℕ)) (other_word : IsWord word) (rest : x ≡ with_rest word more) where
    at_asks : (f : AtForm text) → (word ≡ word_of_question f.question) × (more ≡ behind f.arguments)
    at_asks f = one_head word (word_of_question f.question) more (behind f.arguments) other_word (question_is_word f.question) (sym rest ∙ (at_apart f).1)

    pub at_no_word : ((question : Question) → word ≢ word_of_question question) → (command : Command) → IsSpelled (codes "AT") (Some text) command → ⊥
    at_no_word none command s = let f = at_form text command s in none f.question (at_asks f).0

    module _ (w : QuestionWord) (word_is : word ≡ text_of_question w) where
      pub at_no_question : ((question : Question) → IsSpelledQuestion (text_of_question w) more question → ⊥) → (command : Command) → IsSpelled (codes "AT") (Some text) command → ⊥
      at_no_question none command s =
          let f = at_form text command s in
          let e = at_asks f in
          none f.question (record { word_is = sym e.0 ∙ word_is; arguments = f.arguments; spelled = f.spells; rest_is = sym e.1 })

      pub at_found : (number : ℕ) (question : Question) → number < 2 ^ 32 → a ≡ decimal number → IsSpelledQuestion (text_of_question w) more question → IsSpelled (codes "AT") (Some text) (At number question)
      at_found number question high number_is s =
          let first : with_rest (word_of_question question) (behind s.arguments) ≡ x =
          ap (λ (t : List ℕ). with_rest t (behind s.arguments)) (s.word_is ∙ sym word_is) ∙ ap (with_rest word) s.rest_is ∙ sym rest in
          record {
            word_is = refl;
            arguments = decimal number ∷ word_of_question question ∷ s.arguments;
            spelled = (s.arguments, s.spelled, high, refl);
            rest_is = ap (λ (t : List ℕ). Some (decimal number ++ 32 ∷ t)) (spaced_is (word_of_question question) s.arguments ∙ first)
                ∙ ap (λ (t : List ℕ). Some (t ++ 32 ∷ x)) (sym number_is) ∙ ap (λ (t : List ℕ). Some t) (sym cut);
          }
