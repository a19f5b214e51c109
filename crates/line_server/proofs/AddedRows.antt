-- What is answered to ADDED: one answer, where the same import is seen.
use Rattle.std.proofs.Common.{◌≡◌, ◌⊎◌, ℕ, ◌≤◌, ◌<◌, List, Result, Ok, Err, refl, sym, ap, subst, ◌∙◌, inl, inr, arith}
use Rattle.std.specs.Prelude.{Option, true, false}
use Rattle.std.proofs.lemmas.Bool.{false≢true}
use Rattle.rf2_values.specs.declared.row.Kind.{Kind}
use Rattle.rf2_values.specs.declared.key.Key.{Key}
use Rattle.history_model.specs.History.{History}
use Rattle.history_model.specs.Exports.{added, rows_added}
use Rattle.question_model.specs.Questions.{Question, ForRows, AllRows, Added}
use Rattle.line_server.specs.declared.refusal.LineRefusal.{LineRefusal}
use Rattle.line_server.specs.declared.refusal.LineRefusal.TheVariants as refusals
use Rattle.line_server.specs.ReplyValue.{Answer, Rows}
use Rattle.line_server.specs.Replies.{Server, Same, IsNumber, IsUnseen}
use Rattle.line_server.specs.Laws.{IsSure}
use Rattle.line_server.proofs.AskedOf.{OutcomeAt}
use Rattle.line_server.proofs.Finding.{IsShut, same_from, unfound}

module _ (number : ℕ) (kind : Kind) (after : Option Key) (limit : ℕ) where
  abbrev asked : Question
  asked = Added number kind after limit

  -- the rows are given, the store has to be opened again, or the import isn't seen
  abbrev pub ComesAdded : {D : Type 0} → ℕ → Result Answer LineRefusal → Server D → Type 0
  ComesAdded seen outcome s =
      (IsNumber seen number × (s.store.needs_reopen ≡ false) × (outcome ≡ Ok (Rows (added number kind after limit s.store.history.rows))))
      ⊎ (IsNumber seen number × IsShut outcome s)
      ⊎ (IsUnseen seen asked × (outcome ≡ Err refusals.PinRange))

  pub added_out : {D : Type 0} (honest : Type 0) → honest → (seen : ℕ) (outcome : Result Answer LineRefusal) (old new : Server D) → IsSure outcome → OutcomeAt honest seen asked outcome old new → ComesAdded seen outcome old × Same old new
  added_out honest up seen (Ok answer) old new sure out = (inl (out.0, out.1.0, ap Ok (out.1.2.3 up)), out.1.1)
  added_out honest up seen (Err (refusals.Unread reason)) old new sure out = absurd out
  added_out honest up seen (Err refusals.PinRange) old new sure out = (inr (inr (out.0, refl)), same_from old new out.1)
  added_out honest up seen (Err refusals.NoFolder) old new sure out = absurd out
  added_out honest up seen (Err (refusals.Store refusal)) old new sure out =
      let r = unfound honest up seen old new (rows_added number old.store.history.rows) (ForRows (AllRows kind after limit)) refusal sure out.1 in
      (inr (inl (out.0, r.0)), r.1)

  not_seen : {A : Type 0} (seen : ℕ) → IsNumber seen number → IsUnseen seen asked → A
  not_seen seen within (inl none) = let low = within.0 in absurd (omega (arith, low, none))
  not_seen seen within (inr above) = let high = within.1 in absurd (omega (arith, high, above))

  pub one_added : {D : Type 0} (m n : ℕ) (x y : Result Answer LineRefusal) (a b : Server D) → m ≡ n → a.store.history ≡ b.store.history → a.store.needs_reopen ≡ b.store.needs_reopen → ComesAdded m x a → ComesAdded n y b → x ≡ y
  one_added m n x y a b seen same needs (inl h) (inl k) = h.2 ∙ ap (λ (g : History). Ok (Rows (added number kind after limit g.rows))) same ∙ sym k.2
  one_added m n x y a b seen same needs (inl h) (inr (inl k)) = absurd (false≢true (sym h.1 ∙ needs ∙ k.1.0))
  one_added m n x y a b seen same needs (inr (inl h)) (inl k) = absurd (false≢true (sym k.1 ∙ sym needs ∙ h.1.0))
  one_added m n x y a b seen same needs (inr (inl h)) (inr (inl k)) = h.1.1 ∙ sym k.1.1
  one_added m n x y a b seen same needs (inr (inr h)) (inr (inr k)) = h.1 ∙ sym k.1
  one_added m n x y a b seen same needs (inl h) (inr (inr k)) = not_seen n (subst (λ (i : ℕ). IsNumber i number) seen h.0) k.0
  one_added m n x y a b seen same needs (inr (inl h)) (inr (inr k)) = not_seen n (subst (λ (i : ℕ). IsNumber i number) seen h.0) k.0
  one_added m n x y a b seen same needs (inr (inr h)) (inl k) = not_seen m (subst (λ (i : ℕ). IsNumber i number) (sym seen) k.0) h.0
  one_added m n x y a b seen same needs (inr (inr h)) (inr (inl k)) = not_seen m (subst (λ (i : ℕ). IsNumber i number) (sym seen) k.0) h.0
