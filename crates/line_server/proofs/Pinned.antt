-- What a query is answered at a pin.
use Rattle.std.proofs.Common.{◌≡◌, ◌⊎◌, ℕ, false, List, sym, ap, subst, ◌∙◌, Result, Ok, inl, inr}
use Rattle.std.proofs.lemmas.Bool.{false≢true}
use Rattle.disk_model.specs.View.{DiskView}
use Rattle.rf2_values.specs.Row.{RowValue}
use Rattle.history_model.specs.History.{rows_at}
use Rattle.question_model.specs.Questions.{Question, Receipt, Added}
use Rattle.line_commands.specs.Commands.{Command}
use Rattle.line_commands.specs.Requests.{Asks}
use Rattle.line_commands.proofs.Readings.{one_reading, asked_is_read}
use Rattle.line_server.specs.declared.refusal.LineRefusal.{LineRefusal}
use Rattle.line_server.specs.Sources.{Releases}
use Rattle.line_server.specs.ReplyValue.{Answer}
use Rattle.line_server.specs.Replies.{Server, IsFound, IsAskedOf, LacksAny, IsRefusedAsHeld, IsRefusedForLack, IsPerformed, Replies}
use Rattle.line_server.specs.Laws.{PinnedIsUndisturbed, IsSure}
use Rattle.line_server.proofs.AskedOf.{OutcomeAt, asked_freely, outcome_at}
use Rattle.line_server.proofs.Finding.{AsksFound, ComesOut, one_found, found_out}

-- what a line that asks a command is answered
abbrev pub Settles : {D : Type 0} → Type 0 → Releases → ℕ → Command → Result Answer LineRefusal → Server D → Server D → Type 0
Settles honest releases session command outcome old new = IsRefusedAsHeld command outcome old new ⊎ IsRefusedForLack command outcome old new ⊎ IsPerformed honest releases session command outcome old new

-- a line that asks a command is answered as that comes out
pub asked_outcome : {D : Type 0} (honest : Type 0) (releases : Releases) (old new : Server D) (line : List ℕ) (session : ℕ) (command : Command) (outcome : Result Answer LineRefusal) → Asks line session command → Replies honest releases line outcome old new
    → Settles honest releases session command outcome old new
asked_outcome honest releases old new line session command outcome asks (inl r) =
    let one = one_reading line r.0 session r.1 command r.2 asks in
    let out = subst (λ (s : ℕ). Settles honest releases s r.1 outcome old new) one.0 r.3 in
    subst (λ (c : Command). Settles honest releases session c outcome old new) one.1 out
asked_outcome honest releases old new line session command outcome asks (inr r) = absurd (asked_is_read line session command r.0 asks r.1)

-- a line that asks a question is answered as that comes out
pub question_out : {D : Type 0} (honest : Type 0) (releases : Releases) (old new : Server D) (line : List ℕ) (session : ℕ) (command : Command) (question : Question) (pin : ℕ) (outcome : Result Answer LineRefusal)
    → Asks line session command → IsAskedOf old session command question pin → (LacksAny command old.store → ⊥) → Replies honest releases line outcome old new → OutcomeAt honest pin question outcome old new
question_out honest releases old new line session command question pin outcome asks at has_all r =
    came_out (asked_outcome honest releases old new line session command outcome asks r) where
      came_out : Settles honest releases session command outcome old new → OutcomeAt honest pin question outcome old new
      came_out (inl h) = absurd (asked_freely honest releases session question old new command pin outcome old.held at h.held_back)
      came_out (inr (inl h)) = absurd (has_all (h.lack, h.lacks))
      came_out (inr (inr h)) = outcome_at honest releases session question old new command pin outcome at h.comes_out

-- what is found isn't a receipt
found_asked : (question : Question) (rows : List RowValue) (query : Answer) → IsFound question rows query → AsksFound question
found_asked (Receipt number) rows query h = h
found_asked (Added number kind after limit) rows query h = h
found_asked question rows query h = tt

-- on an honest disk an open store answers what is found
pub reply_found : {D : Type 0} (honest : Type 0) (releases : Releases) (old new : Server D) (session pin : ℕ) (query : Answer) (line : List ℕ) (command : Command) (question : Question) (outcome : Result Answer LineRefusal) → honest → old.store.needs_reopen ≡ false
    → Asks line session command → IsAskedOf old session command question pin → (LacksAny command old.store → ⊥) → IsFound question (rows_at pin old.store.history.rows) query → IsSure outcome → Replies honest releases line outcome old new → outcome ≡ Ok query
reply_found honest releases old new session pin query line command question outcome up open_still asks at has_all found sure r =
    given (found_out honest up pin old new question outcome (found_asked question (rows_at pin old.store.history.rows) query found) sure (question_out honest releases old new line session command question pin outcome asks at has_all r)).0 where
      given : ComesOut pin question outcome old → outcome ≡ Ok query
      given (inl h) = h.3 ∙ ap Ok (one_found question (rows_at pin old.store.history.rows) h.0 query h.2 found)
      given (inr h) = absurd (false≢true (sym open_still ∙ h.0))

module _ (D : Type 0) (view : D → DiskView) where
  pub undisturbed : PinnedIsUndisturbed D view
  undisturbed releases others a b after next line text session other pin command also question query one two ha hb oa ob asks asked at to la lb found agree ra rb sa sb =
      reply_found (view a.store.disk).is_honest releases a after session pin query line command question one ha oa asks at la found sa ra
      ∙ sym (reply_found (view b.store.disk).is_honest others b next other pin query text also question two hb ob asked to lb (subst (λ (rows : List RowValue). IsFound question rows query) agree found) sb rb)
