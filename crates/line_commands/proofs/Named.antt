-- Lines of session 0 that have a command's word and the name of a release.
use Rattle.std.proofs.Common.{◌≡◌, ℕ, ◌+◌, ◌≤◌, Some, List, ◌∷◌, ◌++◌, length, length-append, codes, refl, sym, ap, subst, ◌∙◌, arith}
use Rattle.std.specs.Prelude.{decimal}
use Rattle.std.specs.Fmt.{digits}
use Rattle.line_commands.specs.declared.words.Word.{Word}
use Rattle.line_commands.specs.declared.unread.Unread.TheVariants as unread
use Rattle.line_commands.specs.Commands.{Command, word_of}
use Rattle.line_commands.specs.Requests.{Asks, IsUnread, spaced, with_rest, request_limit}
use Rattle.line_commands.specs.Private.{IsWord, text_of_word, named_line, behind, IsSpelled}
use Rattle.line_commands.proofs.FirstWords.{command_is_word, spaced_is}
use Rattle.line_commands.proofs.Readings.{session_word}
use Rattle.line_commands.proofs.Refusing.{refuse_arguments, some_command}

zero_spelled : codes "0" ≡ decimal 0
unfolding digits
zero_spelled = refl

module _ (w : Word) (name : List ℕ) where
  abbrev line : List ℕ
  line = named_line (text_of_word w) name

  abbrev rest : List ℕ
  rest = with_rest (text_of_word w) (Some name)

  pub named_length : length line ≡ 3 + length (text_of_word w) + length name
  named_length = let whole = length-append (text_of_word w) (32 ∷ name) in omega (arith, whole)

  pub named_asks : length line ≤ request_limit → (command : Command) → IsSpelled (text_of_word w) (Some name) command → Asks line 0 command
  named_asks short command is =
      let word : spaced (word_of command ∷ is.arguments) ≡ rest =
      spaced_is (word_of command) is.arguments ∙ ap (λ (t : List ℕ). with_rest t (behind is.arguments)) is.word_is ∙ ap (with_rest (text_of_word w)) is.rest_is in
      record {
        short = short;
        is_session = omega arith;
        arguments = is.arguments;
        spelled = is.spelled;
        line_is = ap (λ (t : List ℕ). t ++ 32 ∷ rest) zero_spelled ∙ ap (λ (t : List ℕ). decimal 0 ++ 32 ∷ t) (sym word);
      }

  pub named_unread : length line ≤ request_limit → ((command : Command) → IsSpelled (text_of_word w) (Some name) command → ⊥) → IsUnread line unread.Arguments
  named_unread short none =
      let c = some_command w in
      refuse_arguments line (codes "0") (Some rest) short (subst IsWord (sym zero_spelled) (session_word 0 (omega arith))) refl
      0 (omega arith) zero_spelled rest (text_of_word w) (Some name) refl (subst IsWord c.1 (command_is_word c.0)) refl w refl none
