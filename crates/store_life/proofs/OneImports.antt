-- One store and one release give one answer, unless memory lacks or the disk fails.
use Rattle.std.proofs.Common.{◌≡◌, ℕ, ◌++◌, Bool, List, [], ◌∷◌, sym, ap, subst, ◌∙◌, Result, Ok, Err, inl, inr}
use Rattle.list_lemmas.proofs.Tests.{one_value}
use Rattle.rf2_values.specs.Row.{RowValue}
use Rattle.history_model.specs.declared.stamped.StampedRow.{StampedRow}
use Rattle.history_model.specs.declared.receipt.Receipt.{Receipt}
use Rattle.history_model.specs.History.{History, after_release}
use Rattle.history_model.specs.Lists.{new_rows}
use Rattle.import_check.specs.declared.release.Release.{Release}
use Rattle.import_check.proofs.Receipts.{one_list}
use Rattle.store_image.specs.Kept.{entry_at}
use Rattle.history_store.specs.declared.refusal.Refusal.{Refusal}
use Rattle.history_store.specs.declared.refusal.Refusal.TheVariants as refusals
use Rattle.history_store.specs.Catalog.{Catalog, IsCatalogAfter, next_catalog}
use Rattle.history_store.specs.StoreValue.{StoreValue}
use Rattle.history_store.specs.Answers.{IsTakenAs, IsNotTaken, IsRefused, IsRefusedFor, IsImportOf}
use Rattle.history_store.specs.Checking.{HasFailed}
use Rattle.history_store.proofs.Foreseen.{one_receipt, refused_again, not_taken_then}
use Rattle.store_life.specs.Laws.{OneImport}

-- a segment goes to one place
one_next : (rows : List StampedRow) (catalog next other : Catalog) → IsCatalogAfter rows catalog next → IsCatalogAfter rows catalog other → other ≡ next
one_next [] catalog next other a b = b ∙ sym a
one_next (s ∷ rows) catalog next other a b =
    let first : b.first ≡ a.first = one_value _ b.first a.first b.place a.place in
    b.next_is ∙ ap (λ (k : ℕ). record (next_catalog catalog) { entries = catalog.entries ++ entry_at catalog.layout k (s ∷ rows) ∷ [] }) first ∙ sym a.next_is

-- a store that is like another, with the other's parts
like : {D : Type 0} (a b : StoreValue D) → b.history ≡ a.history → b.catalog ≡ a.catalog → b.needs_reopen ≡ a.needs_reopen → b ≡ record b { history = a.history; catalog = a.catalog; needs_reopen = a.needs_reopen }
like a b e f g =
    ap (λ (h : History). record b { history = h }) e
    ∙ ap (λ (x : Catalog). record b { history = a.history; catalog = x }) f
    ∙ ap (λ (n : Bool). record b { history = a.history; catalog = a.catalog; needs_reopen = n }) g

module _ (D : Type 0) (needs : Bool) (h : History) (catalog : Catalog) (release : Release) where
  -- with this history, this catalog and this state
  abbrev store_of : StoreValue D → StoreValue D
  store_of s = record s { history = h; catalog = catalog; needs_reopen = needs }

  same_rows : {after next : History} {c d : Catalog} {r q : Receipt} (t : IsTakenAs h after catalog c release r) (u : IsTakenAs h next catalog d release q) → u.accepted.rows ≡ t.accepted.rows
  same_rows t u = one_list release u.accepted.rows t.accepted.rows u.accepted.is_release t.accepted.is_release

  -- a refusal that isn't the disk's leaves the store as it was
  stays : (e : Refusal) (c after : StoreValue D) → (HasFailed (Err e) → ⊥) → IsRefused e (store_of c) after → after.needs_reopen ≡ needs
  stays e c after sure refused = refused.still (λ fault. sure (subst (λ (f : Refusal). HasFailed (Err f)) (sym fault) tt))

  same_cause : (e : Refusal) (c d : StoreValue D) → IsRefusedFor (IsNotTaken h catalog release) e (store_of d) → IsRefusedFor (IsNotTaken h catalog release) e (store_of c)
  same_cause refusals.ReopenNeeded c d why = why
  same_cause _ c d why = why

  agree : (x y : Result Receipt Refusal) (c d after next : StoreValue D) → (HasFailed x → ⊥) → (HasFailed y → ⊥) → IsImportOf x (store_of c) after release → IsImportOf y (store_of d) next release
      → (x ≡ y) × (next.history ≡ after.history) × (next.catalog ≡ after.catalog) × (next.needs_reopen ≡ after.needs_reopen)
  agree (Ok r) (Ok q) c d after next sure also i k =
      let t = i.0 in
      let u = k.0 in
      let rows = same_rows t u in (
        ap Ok (sym (one_receipt h after.history next.history catalog after.catalog next.catalog release r q t u)),
        u.history ∙ ap (after_release h) rows ∙ sym t.history,
        one_next (new_rows h t.accepted.rows) catalog after.catalog next.catalog t.catalog_is (subst (λ (l : List RowValue). IsCatalogAfter (new_rows h l) catalog next.catalog) rows u.catalog_is),
        k.2 ∙ sym i.2,
      )
  agree (Ok r) (Err f) c d after next sure also i k = absurd (also (not_taken_then (store_of d) release after f r k.0 i))
  agree (Err e) (Ok q) c d after next sure also i k = absurd (sure (not_taken_then (store_of c) release next e q i.0 k))
  agree (Err e) (Err f) c d after next sure also i k = elim (refused_again (store_of c) release e f i.0 (same_cause f c d k.0)) [
    | inl same ↦ (
      ap Err (sym same),
      k.1.history ∙ sym i.1.history,
      k.1.catalog ∙ sym i.1.catalog,
      stays f d next also k.1 ∙ sym (stays e c after sure i.1),
    )
    | inr failed ↦ elim failed [
      | inl one ↦ absurd (sure one)
      | inr other ↦ absurd (also other)
    ]
  ]

pub one_import : (D : Type 0) → OneImport D
one_import D release result also a b after next history catalog needs one two sure other =
    agree D a.needs_reopen a.history a.catalog release result also a b after next sure other one (subst (λ (s : StoreValue D). IsImportOf also s next release) (like a b history catalog needs) two)
