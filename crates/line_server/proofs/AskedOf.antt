-- Questions that are asked of the first so many imports.
use Rattle.std.proofs.Common.{◌≡◌, ℕ, ◌≤◌, Result, Ok, Err, sym, subst, inl, inr, arith}
use Rattle.disk_model.specs.View.{DiskView}
use Rattle.question_model.specs.Questions.{Question}
use Rattle.line_commands.specs.Commands.{Command, Ask, At}
use Rattle.line_server.specs.declared.refusal.LineRefusal.{LineRefusal}
use Rattle.line_server.specs.declared.refusal.LineRefusal.TheVariants as refusals
use Rattle.line_server.specs.Sources.{Releases}
use Rattle.line_server.specs.ReplyValue.{Answer}
use Rattle.line_server.specs.Replies.{Server, IsAnswerAt, IsRefusalAt, IsUnseen, IsOutcome, IsAskedOf, imports_seen}
use Rattle.line_server.specs.declared.held.Held.{Held}
use Rattle.line_server.specs.StateValue.{IsChange, HoldsBack}
use Rattle.line_server.proofs.HeldBack.{change_of}
use Rattle.line_server.specs.Turns.{LeavesAsked, LeavesDisk}

-- how a question comes out that is asked of the first `seen` imports
abbrev pub OutcomeAt : {D : Type 0} → Type 0 → ℕ → Question → Result Answer LineRefusal → Server D → Server D → Type 0
OutcomeAt honest seen question (Ok answer) old new = IsAnswerAt honest seen question answer old new
OutcomeAt honest seen question (Err (refusals.Unread reason)) old new = ⊥
OutcomeAt honest seen question (Err refusals.PinRange) old new = IsUnseen seen question × (new ≡ old)
OutcomeAt honest seen question (Err refusals.NoFolder) old new = ⊥
OutcomeAt honest seen question (Err (refusals.Store refusal)) old new = IsRefusalAt honest seen question refusal old new

module _ {D : Type 0} (honest : Type 0) (releases : Releases) (session : ℕ) (question : Question) (old new : Server D) where
  -- a session's question, and one behind AT

  asked : (outcome : Result Answer LineRefusal) → IsOutcome honest releases session (Ask question) outcome old new → OutcomeAt honest (imports_seen old session) question outcome old new
  asked (Ok answer) h = h
  asked (Err (refusals.Unread reason)) h = h
  asked (Err refusals.PinRange) h = h
  asked (Err refusals.NoFolder) h = absurd h.1
  asked (Err (refusals.Store refusal)) h = h

  asked_at : (pin : ℕ) (outcome : Result Answer LineRefusal) → pin ≤ old.store.history.imports → IsOutcome honest releases session (At pin question) outcome old new → OutcomeAt honest pin question outcome old new
  asked_at pin (Ok answer) within h = h.1
  asked_at pin (Err (refusals.Unread reason)) within h = h
  asked_at pin (Err refusals.PinRange) within (inl above, same) = absurd (omega (arith, within, above))
  asked_at pin (Err refusals.PinRange) within (inr unseen, same) = (unseen, same)
  asked_at pin (Err refusals.NoFolder) within h = absurd h.1
  asked_at pin (Err (refusals.Store refusal)) within h = h.1

  comes_out : (outcome : Result Answer LineRefusal) → OutcomeAt honest (imports_seen old session) question outcome old new → IsOutcome honest releases session (Ask question) outcome old new
  comes_out (Ok answer) h = h
  comes_out (Err (refusals.Unread reason)) h = h
  comes_out (Err refusals.PinRange) h = h
  comes_out (Err refusals.NoFolder) h = absurd h
  comes_out (Err (refusals.Store refusal)) h = h

  comes_out_at : (pin : ℕ) (outcome : Result Answer LineRefusal) → pin ≤ old.store.history.imports → OutcomeAt honest pin question outcome old new → IsOutcome honest releases session (At pin question) outcome old new
  comes_out_at pin (Ok answer) within h = (within, h)
  comes_out_at pin (Err (refusals.Unread reason)) within h = h
  comes_out_at pin (Err refusals.PinRange) within h = (inr h.0, h.1)
  comes_out_at pin (Err refusals.NoFolder) within h = absurd h
  comes_out_at pin (Err (refusals.Store refusal)) within h = (within, h)

  module _ (command : Command) (pin : ℕ) (outcome : Result Answer LineRefusal) where
    -- it is never held back
    pub asked_freely : (held : Held) → IsAskedOf old session command question pin → HoldsBack held command → ⊥
    asked_freely held (inl (is, at)) h = subst IsChange is (change_of held command h)
    asked_freely held (inr (is, within)) h = subst IsChange is (change_of held command h)

    pub outcome_at : IsAskedOf old session command question pin → IsOutcome honest releases session command outcome old new → OutcomeAt honest pin question outcome old new
    outcome_at (inl (is, at)) h =
        subst (λ (k : ℕ). OutcomeAt honest k question outcome old new) at (asked outcome (subst (λ (c : Command). IsOutcome honest releases session c outcome old new) is h))
    outcome_at (inr (is, within)) h = asked_at pin outcome within (subst (λ (c : Command). IsOutcome honest releases session c outcome old new) is h)

    pub outcome_of : IsAskedOf old session command question pin → OutcomeAt honest pin question outcome old new → IsOutcome honest releases session command outcome old new
    outcome_of (inl (is, at)) h =
        subst (λ (c : Command). IsOutcome honest releases session c outcome old new) (sym is) (comes_out outcome (subst (λ (k : ℕ). OutcomeAt honest k question outcome old new) (sym at) h))
    outcome_of (inr (is, within)) h = subst (λ (c : Command). IsOutcome honest releases session c outcome old new) (sym is) (comes_out_at pin outcome within h)

    pub leaves_of : (view : D → DiskView) → IsAskedOf old session command question pin → LeavesAsked view pin question outcome old.store new.store → LeavesDisk view releases (imports_seen old session) command outcome old.store new.store
    leaves_of view (inl (is, at)) h =
        subst (λ (c : Command). LeavesDisk view releases (imports_seen old session) c outcome old.store new.store) (sym is)
        (subst (λ (k : ℕ). LeavesAsked view k question outcome old.store new.store) (sym at) h)
    leaves_of view (inr (is, within)) h = subst (λ (c : Command). LeavesDisk view releases (imports_seen old session) c outcome old.store new.store) (sym is) h
