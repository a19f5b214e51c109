-- What a question finds.
use Rattle.std.proofs.Common.{◌≡◌, ◌⊎◌, ℕ, Bool, true, false, List, Result, Ok, Err, refl, sym, ap, subst, ◌∙◌, inl, inr}
use Rattle.std.proofs.lemmas.Bool.{false≢true}
use Rattle.rf2_values.specs.Row.{RowValue}
use Rattle.history_model.specs.History.{rows_at}
use Rattle.history_model.proofs.Hierarchy.{one_list_of_ancestors, one_list_of_descendants}
use Rattle.history_store.specs.declared.refusal.Refusal.{Refusal}
use Rattle.history_store.specs.declared.refusal.Refusal.TheVariants as store
use Rattle.question_model.specs.Questions.{Question, Dates, Digest, Receipt, Added, ForRows, ForIds}
use Rattle.question_model.specs.Questions.{IdQuestion, Children, Ancestors, Descendants, Sources}
use Rattle.question_model.specs.Wanted.{AreIdsFor}
use Rattle.line_server.specs.declared.refusal.LineRefusal.{LineRefusal}
use Rattle.line_server.specs.declared.refusal.LineRefusal.TheVariants as refusals
use Rattle.line_server.specs.ReplyValue.{Answer, Ids}
use Rattle.line_server.specs.Replies.{Server, Same, IsFound, IsAnswerAt, IsRefusalAt, IsUnseen, IsUnfound, IsClosed, IsLacking}
use Rattle.line_server.specs.Laws.{IsSure}
use Rattle.line_server.proofs.AskedOf.{OutcomeAt}

abbrev is_fault : Refusal → Bool
is_fault store.DiskFault = true
is_fault _ = false

-- ---- what a question asks for

-- an import's receipt, or something that is found in rows
abbrev pub AsksReceipt : Question → Type 0
AsksReceipt (Receipt number) = Unit {0}
AsksReceipt _ = ⊥

abbrev pub AsksFound : Question → Type 0
AsksFound (Receipt number) = ⊥
AsksFound (Added number kind after limit) = ⊥
AsksFound _ = Unit {0}

-- ---- one answer

-- a question asks for one list of identifiers
same_ids : (question : IdQuestion) (rows : List RowValue) (ids others : List ℕ) → AreIdsFor question rows ids → AreIdsFor question rows others → ids ≡ others
same_ids (Children concept date) rows ids others are also = are ∙ sym also
same_ids (Ancestors concept date) rows ids others are also = one_list_of_ancestors concept date rows ids others are also
same_ids (Descendants concept date) rows ids others are also = one_list_of_descendants concept date rows ids others are also
same_ids (Sources type_id destination date after limit) rows ids others are also = are ∙ sym also

-- a question finds one answer
pub one_found : (question : Question) (rows : List RowValue) (x y : Answer) → IsFound question rows x → IsFound question rows y → x ≡ y
one_found (ForRows question) rows x y h k = h ∙ sym k
one_found (ForIds question) rows x y (ids, are, is) (others, also, so) = is ∙ ap Ids (same_ids question rows ids others are also) ∙ sym so
one_found Dates rows x y h k = h ∙ sym k
one_found Digest rows x y h k = h ∙ sym k
one_found (Receipt number) rows x y h k = absurd h
one_found (Added number kind after limit) rows x y h k = absurd h

-- ---- how a question comes out

-- it is answered by what is found in the rows of the first `seen` imports
abbrev pub IsGiven : {D : Type 0} → ℕ → Question → Result Answer LineRefusal → Server D → Type 0
IsGiven seen question outcome s =
    (answer : Answer) × (s.store.needs_reopen ≡ false) × IsFound question (rows_at seen s.store.history.rows) answer × (outcome ≡ Ok answer)

-- the store has to be opened again
abbrev pub IsShut : {D : Type 0} → Result Answer LineRefusal → Server D → Type 0
IsShut outcome s = (s.store.needs_reopen ≡ true) × (outcome ≡ Err (refusals.Store store.ReopenNeeded))

abbrev pub ComesOut : {D : Type 0} → ℕ → Question → Result Answer LineRefusal → Server D → Type 0
ComesOut seen question outcome s = IsGiven seen question outcome s ⊎ IsShut outcome s

pub same_from : {D : Type 0} (old new : Server D) → new ≡ old → Same old new
same_from old new e = record {
  pins = ap (λ d. d.pins) e;
  store = record { history = ap (λ d. d.store.history) e; catalog = ap (λ d. d.store.catalog) e; needs_reopen = ap (λ d. d.store.needs_reopen) e };
}

module _ {D : Type 0} (honest : Type 0) (up : honest) (seen : ℕ) (old new : Server D) where
  answer_found : (question : Question) (answer : Answer) → AsksFound question → IsAnswerAt honest seen question answer old new
      → (old.store.needs_reopen ≡ false) × Same old new × IsFound question (rows_at seen old.store.history.rows) answer
  answer_found (Receipt number) answer q a = absurd q
  answer_found (Added number kind after limit) answer q a = absurd q
  answer_found (ForIds ids) answer q a = (a.0, a.1, a.2)
  answer_found Dates answer q a = (a.0, a.1, a.2)
  answer_found Digest answer q a = (a.0, a.1, a.2.4 up)
  answer_found question answer q a = (a.0, a.1, a.2.3 up)

  -- an open store refuses it only for want of memory or the disk
  pub unfound : (rows : List RowValue) (question : Question) (refusal : Refusal) → IsSure (Err (refusals.Store refusal)) → IsUnfound honest rows question refusal old new → IsShut (Err (refusals.Store refusal)) old × Same old new
  unfound rows question store.ReopenNeeded sure u = (
    (u.cause, refl),
    record { pins = u.pins; store = record { history = u.refused.history; catalog = u.refused.catalog; needs_reopen = u.refused.still (λ e. false≢true (ap is_fault e)) } },
  )
  unfound rows question store.Damaged sure u = absurd (u.undamaged up refl)
  unfound rows question store.OutOfMemory sure u = absurd sure
  unfound rows question store.DiskFault sure u = absurd sure
  unfound rows question _ sure u = absurd u.cause

  unlisted : (refusal : Refusal) → IsSure (Err (refusals.Store refusal)) → IsClosed refusal old new ⊎ IsLacking refusal old new → IsShut (Err (refusals.Store refusal)) old × Same old new
  unlisted refusal sure (inl h) = ((h.1, ap (λ (e : Refusal). Err (refusals.Store e)) h.0), same_from old new h.2)
  unlisted refusal sure (inr h) = absurd (subst (λ (e : Refusal). IsSure (Err (refusals.Store e))) h.0 sure)

  refused : (question : Question) (refusal : Refusal) → AsksFound question → IsSure (Err (refusals.Store refusal)) → IsRefusalAt honest seen question refusal old new
      → IsShut (Err (refusals.Store refusal)) old × Same old new
  refused (Receipt number) refusal q sure r = absurd q
  refused (Added number kind after limit) refusal q sure r = absurd q
  refused (ForIds ids) refusal q sure r = unlisted refusal sure r
  refused Dates refusal q sure r = unlisted refusal sure r
  refused question refusal q sure r = unfound (rows_at seen old.store.history.rows) question refusal sure r

  not_unseen : {A : Type 0} (question : Question) → AsksFound question → IsUnseen seen question → A
  not_unseen (Receipt number) q h = absurd q
  not_unseen (Added number kind after limit) q h = absurd q
  not_unseen question q h = absurd h

  pub found_out : (question : Question) (outcome : Result Answer LineRefusal) → AsksFound question → IsSure outcome → OutcomeAt honest seen question outcome old new → ComesOut seen question outcome old × Same old new
  found_out question (Ok answer) q sure out = let a = answer_found question answer q out in (inl (answer, a.0, a.2, refl), a.1)
  found_out question (Err (refusals.Unread reason)) q sure out = absurd out
  found_out question (Err refusals.PinRange) q sure out = not_unseen question q out.0
  found_out question (Err refusals.NoFolder) q sure out = absurd out
  found_out question (Err (refusals.Store refusal)) q sure out = let r = refused question refusal q sure out in (inr r.0, r.1)

-- it comes out in one way, where the same rows are shown
pub one_way : {D : Type 0} (question : Question) (m n : ℕ) (x y : Result Answer LineRefusal) (a b : Server D)
    → rows_at m a.store.history.rows ≡ rows_at n b.store.history.rows → a.store.needs_reopen ≡ b.store.needs_reopen → ComesOut m question x a → ComesOut n question y b → x ≡ y
one_way question m n x y a b rows needs (inl h) (inl k) =
    h.3 ∙ ap Ok (one_found question (rows_at n b.store.history.rows) h.0 k.0 (subst (λ (r : List RowValue). IsFound question r h.0) rows h.2) k.2) ∙ sym k.3
one_way question m n x y a b rows needs (inl h) (inr k) = absurd (false≢true (sym h.1 ∙ needs ∙ k.0))
one_way question m n x y a b rows needs (inr h) (inl k) = absurd (false≢true (sym k.1 ∙ sym needs ∙ h.0))
one_way question m n x y a b rows needs (inr h) (inr k) = h.1 ∙ sym k.1
