-- Lines that ask nothing, as they are taken apart.
use Rattle.std.proofs.Common.{◌≡◌, ◌≢◌, ℕ, ◌<◌, ◌≤◌, Option, Some, None, List, [], ◌∷◌, ◌++◌, length, refl, sym, ap, ◌∙◌}
use Rattle.std.specs.Prelude.{decimal}
use Rattle.std.proofs.lemmas.Option.{same_Some, none-some}
use Rattle.line_commands.specs.declared.words.Word.{Word}
use Rattle.line_commands.specs.declared.words.Word.TheVariants as words
use Rattle.line_commands.specs.declared.unread.Unread.TheVariants as unread
use Rattle.question_model.specs.Questions.{Dates}
use Rattle.line_commands.specs.Commands.{Command, Ask, At, Import, Check, Pin, Unpin, Merge, Step, Publish, Abandon, Trim, Status, word_of}
use Rattle.line_commands.specs.Requests.{with_rest, sessions, request_limit, IsUnread, HasSession, HasCommand}
use Rattle.line_commands.specs.Private.{IsWord, example, text_of_word, behind, IsSpelled}
use Rattle.line_commands.proofs.FirstWords.{command_is_word, one_head}
use Rattle.line_commands.proofs.Readings.{session_word, begun, line_begins}

pub some_command : (w : Word) → (c : Command) × (word_of c ≡ text_of_word w)
some_command (words.Question w) = (Ask (example w), refl)
some_command words.At = (At 0 Dates, refl)
some_command words.Import = (Import [], refl)
some_command words.Check = (Check [], refl)
some_command words.Pin = (Pin None, refl)
some_command words.Unpin = (Unpin, refl)
some_command words.Merge = (Merge, refl)
some_command words.Step = (Step 0, refl)
some_command words.Publish = (Publish, refl)
some_command words.Abandon = (Abandon, refl)
some_command words.Trim = (Trim, refl)
some_command words.Status = (Status, refl)

module _ (line number : List ℕ) (rest : Option (List ℕ)) (short : length line ≤ request_limit) (is_word : IsWord number) (cut : line ≡ with_rest number rest) where
  pub refuse_session : ((n : ℕ) → n < sessions → number ≢ decimal n) → IsUnread line unread.Session
  refuse_session none = (short, λ h. none h.0 h.1 (one_head number (decimal h.0) _ _ is_word (session_word h.0 h.1) (sym cut ∙ h.2.1)).0)

  module _ (session : ℕ) (is_session : session < sessions) (number_is : number ≡ decimal session) where
    has_session_here : HasSession line
    has_session_here = (session, is_session, (rest, cut ∙ ap (λ (n : List ℕ). with_rest n rest) number_is))

    -- what a line with a command has behind the session
    behind_session : (h : HasCommand line) → rest ≡ Some (with_rest (word_of h.1) h.3.0)
    behind_session h = (one_head number (decimal h.0) rest (Some (with_rest (word_of h.1) h.3.0)) is_word (session_word h.0 h.2) (sym cut ∙ h.3.1 ∙ sym (begun (decimal h.0) (word_of h.1) h.3.0))).1

    pub refuse_bare : rest ≡ None → IsUnread line unread.Command
    refuse_bare e = (short, has_session_here, λ h. none-some _ (sym e ∙ behind_session h))

    module _ (text word : List ℕ) (more : Option (List ℕ)) (rest_is : rest ≡ Some text) (other_word : IsWord word) (text_is : text ≡ with_rest word more) where
      pub refuse_word : ((command : Command) → word ≢ word_of command) → IsUnread line unread.Command
      refuse_word none = (short, has_session_here, λ h. none h.1 (one_head word (word_of h.1) more h.3.0 other_word (command_is_word h.1) (sym text_is ∙ same_Some _ _ (sym rest_is ∙ behind_session h))).0)

      pub refuse_arguments : (w : Word) → word ≡ text_of_word w → ((command : Command) → IsSpelled (text_of_word w) more command → ⊥) → IsUnread line unread.Arguments
      refuse_arguments w word_is none =
          let c = some_command w in
          let head : with_rest word more ≡ with_rest (word_of c.0) more = ap (λ (x : List ℕ). with_rest x more) (word_is ∙ sym c.1) in
          let whole : line ≡ decimal session ++ 32 ∷ with_rest (word_of c.0) more = cut ∙ ap (λ (n : List ℕ). with_rest n rest) number_is ∙ ap (λ (r : Option (List ℕ)). with_rest (decimal session) r) (rest_is ∙ ap (λ (t : List ℕ). Some t) (text_is ∙ head)) in (
            short,
            (session, c.0, is_session, (more, whole ∙ begun (decimal session) (word_of c.0) more)),
            λ s command a.
                let first = one_head number (decimal s) rest _ is_word (session_word s a.is_session) (sym cut ∙ line_begins line s command a) in
                let second = one_head word (word_of command) more (behind a.arguments) other_word (command_is_word command) (sym text_is ∙ same_Some _ _ (sym rest_is ∙ first.1)) in
                none command (record { word_is = sym second.0 ∙ word_is; arguments = a.arguments; spelled = a.spelled; rest_is = sym second.1 }),
          )
