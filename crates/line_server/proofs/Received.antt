-- What a RECEIPT is answered.
use Rattle.std.proofs.Common.{◌≡◌, ◌⊎◌, ℕ, ◌≤◌, ◌<◌, true, false, List, length, Option, Result, Ok, Err, inl, inr, refl, sym, ap, subst, ◌∙◌, arith}
use Rattle.std.proofs.lemmas.Bool.{false≢true}
use Rattle.disk_model.specs.View.{DiskView}
use Rattle.history_model.specs.declared.stamped.StampedRow.{StampedRow}
use Rattle.history_model.specs.History.{History}
use Rattle.history_model.specs.Brought.{IsLatestDay, ImportReceiptOf}
use Rattle.history_model.proofs.Brought.{one_receipt_for_an_import}
use Rattle.history_store.specs.declared.refusal.Refusal.{Refusal}
use Rattle.history_store.specs.declared.refusal.Refusal.TheVariants as store
use Rattle.history_store.specs.StoreValue.{StoreValue}
use Rattle.question_model.specs.Questions.{Receipt}
use Rattle.line_commands.specs.Commands.{Command}
use Rattle.line_server.specs.declared.refusal.LineRefusal.{LineRefusal}
use Rattle.line_server.specs.declared.refusal.LineRefusal.TheVariants as refusals
use Rattle.line_server.specs.ReplyValue.{Answer, Done}
use Rattle.line_server.specs.Replies.{Server, IsAskedOf, LacksAny, LacksFor, receipt_of}
use Rattle.line_server.specs.Laws.{PinnedReceiptIsUndisturbed}
use Rattle.store_life.specs.Laws.{BroughtAlike}
use Rattle.line_server.proofs.AskedOf.{OutcomeAt}
use Rattle.line_server.proofs.Pinned.{question_out}

-- ---- how it comes out

-- the receipt of an import is told of the first `seen`
abbrev pub IsGiven : {D : Type 0} → ℕ → ℕ → Result Answer LineRefusal → Server D → Type 0
IsGiven seen number outcome s =
    (brought : ℕ) × (latest : Option ℕ) × (s.store.needs_reopen ≡ false) × (number ≤ seen) × ImportReceiptOf s.store.history number brought latest × (outcome ≡ Ok (Done (receipt_of number brought latest)))

abbrev IsShut : {D : Type 0} → ℕ → ℕ → Result Answer LineRefusal → Server D → Type 0
IsShut seen number outcome s = (s.store.needs_reopen ≡ true) × (number ≤ seen) × (outcome ≡ Err (refusals.Store store.ReopenNeeded))

abbrev IsBehind : ℕ → ℕ → Result Answer LineRefusal → Type 0
IsBehind seen number outcome = (seen < number) × (outcome ≡ Err refusals.PinRange)

abbrev pub ComesOut : {D : Type 0} → ℕ → ℕ → Result Answer LineRefusal → Server D → Type 0
ComesOut seen number outcome s = IsGiven seen number outcome s ⊎ (IsShut seen number outcome s ⊎ IsBehind seen number outcome)

pub receipt_out : {D : Type 0} (honest : Type 0) (seen number : ℕ) (outcome : Result Answer LineRefusal) (old new : Server D) → OutcomeAt honest seen (Receipt number) outcome old new → (new ≡ old) × ComesOut seen number outcome old
receipt_out honest seen number (Ok answer) old new h = (h.unchanged, inl (h.brought, h.latest, h.open_still, h.within, h.receipt, ap Ok h.answer_is))
receipt_out honest seen number (Err (refusals.Unread reason)) old new h = absurd h
receipt_out honest seen number (Err refusals.PinRange) old new h = (h.1, inr (inr (h.0, refl)))
receipt_out honest seen number (Err refusals.NoFolder) old new h = absurd h
receipt_out honest seen number (Err (refusals.Store e)) old new h = (h.1.2, inr (inl (h.1.1, h.0, ap (λ (r : Refusal). Err (refusals.Store r)) h.1.0)))

-- ---- one receipt

-- the receipt of an import that brought the same rows
pub moved_receipt : (h g : History) (number brought imported : ℕ) (latest day : Option ℕ) → BroughtAlike number h g → ImportReceiptOf h number imported day → ImportReceiptOf g number brought latest → ImportReceiptOf h number brought latest
moved_receipt h g number brought imported latest day alike here there = record {
  imported = here.imported;
  new_is = there.new_is ∙ ap length (sym alike);
  latest_is = subst (λ (rows : List StampedRow). IsLatestDay latest rows) (sym alike) there.latest_is;
}

told_alike : (h g : History) (number brought count : ℕ) (latest day : Option ℕ) → BroughtAlike number h g → ImportReceiptOf h number brought latest → ImportReceiptOf g number count day → receipt_of number brought latest ≡ receipt_of number count day
told_alike h g number brought count latest day alike here there =
    let one = one_receipt_for_an_import h number brought count latest day here (moved_receipt h g number count brought day latest alike here there) in
    ap (λ (n : ℕ). receipt_of number n latest) one.0 ∙ ap (λ (d : Option ℕ). receipt_of number count d) one.1

module _ {D : Type 0} (m n number : ℕ) (x y : Result Answer LineRefusal) (a b : Server D) (seen : m ≡ n) (needs : a.store.needs_reopen ≡ b.store.needs_reopen) (alike : number ≤ m → BroughtAlike number a.store.history b.store.history) where
  pub one_receipt : ComesOut m number x a → ComesOut n number y b → x ≡ y
  one_receipt (inl h) (inl k) = h.5 ∙ ap (λ (words : List (List ℕ)). Ok (Done words)) (told_alike a.store.history b.store.history number h.0 k.0 h.1 k.1 (alike h.3) h.4 k.4) ∙ sym k.5
  one_receipt (inl h) (inr (inl k)) = absurd (false≢true (sym h.2 ∙ needs ∙ k.0))
  one_receipt (inl h) (inr (inr k)) = absurd (let within = h.3 in let above = k.0 in omega (arith, within, above, seen))
  one_receipt (inr (inl h)) (inl k) = absurd (false≢true (sym k.2 ∙ sym needs ∙ h.0))
  one_receipt (inr (inl h)) (inr (inl k)) = h.2 ∙ sym k.2
  one_receipt (inr (inl h)) (inr (inr k)) = absurd (let within = h.1 in let above = k.0 in omega (arith, within, above, seen))
  one_receipt (inr (inr h)) (inl k) = absurd (let within = k.3 in let above = h.0 in omega (arith, within, above, seen))
  one_receipt (inr (inr h)) (inr (inl k)) = absurd (let within = k.1 in let above = h.0 in omega (arith, within, above, seen))
  one_receipt (inr (inr h)) (inr (inr k)) = h.1 ∙ sym k.1

-- a store lacks nothing for a receipt
receipt_lacks_none : {D : Type 0} (s : StoreValue D) (number : ℕ) (lack : Refusal) → LacksFor (Receipt number) s lack → ⊥
receipt_lacks_none s number store.LaterVersion lacks = lacks.1
receipt_lacks_none s number lack lacks = lacks

pub no_members : {D : Type 0} (s : Server D) (session : ℕ) (command : Command) (number pin : ℕ) → IsAskedOf s session command (Receipt number) pin → LacksAny command s.store → ⊥
no_members s session command number pin (inl (is, at)) lacks =
    let own = subst (λ (c : Command). LacksAny c s.store) is lacks in receipt_lacks_none s.store number own.0 own.1
no_members s session command number pin (inr (is, within)) lacks =
    let own = subst (λ (c : Command). LacksAny c s.store) is lacks in receipt_lacks_none s.store number own.0 own.1.1

pub receipt_undisturbed : (D : Type 0) (view : D → DiskView) → PinnedReceiptIsUndisturbed D view
receipt_undisturbed D view releases others a b after next line text session other pin number command also one two needs asks asked at to alike ra rb =
    one_receipt pin pin number one two a b refl needs (λ within. alike)
    (receipt_out (view a.store.disk).is_honest pin number one a after (question_out (view a.store.disk).is_honest releases a after line session command (Receipt number) pin one asks at (no_members a session command number pin at) ra)).1
    (receipt_out (view b.store.disk).is_honest pin number two b next (question_out (view b.store.disk).is_honest others b next text other also (Receipt number) pin two asked to (no_members b other also number pin to) rb)).1
