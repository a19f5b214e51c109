-- What an import answers on every disk: its new rows are those with new keys.
use Rattle.std.proofs.Common.{◌≡◌, ℕ, ◌+◌, ◌≤◌, false, List, length, refl, sym, ap, subst, inl, inr, ◌∙◌, arith}
use Rattle.rf2_values.specs.Row.{RowValue}
use Rattle.history_model.specs.declared.stamped.StampedRow.{StampedRow}
use Rattle.history_model.specs.History.{History, IsHistory, Accepts, full, stamped, row_cmp, after_release}
use Rattle.history_model.proofs.InOrder.{Has-append_cases}
use Rattle.history_model.proofs.Filtered.{IsAscending-map}
use Rattle.history_model.proofs.Snapshots.{IsConsistent-from_ascending}
use Rattle.import_check.specs.declared.release.Release.{Release}
use Rattle.import_check.specs.declared.found.NewRows.{NewRows}
use Rattle.import_check.specs.NewRows.{AreNewRows, AreNewByKey, BringsByKey}
use Rattle.history_store.specs.declared.preparing.Prepared.{Prepared}
use Rattle.history_store.specs.declared.refusal.Refusal.{Refusal}
use Rattle.history_store.specs.declared.refusal.Refusal.TheVariants as refusals
use Rattle.history_store.specs.Catalog.{Catalog, IsCatalogAfter, IsPlaced, catalog_of}
use Rattle.history_store.specs.StoreValue.{StoreValue}
use Rattle.history_store.specs.Private.StoreValue.{with_rows}
use Rattle.history_store.specs.Prepared.{IsAdmitted}
use Rattle.history_store.specs.Private.Prepared.{IsUnprepared}
use Rattle.history_store.specs.Answers.{IsRefusedFor, IsNotTakenByKey, IsStill, IsTakenByKey}
use Rattle.history_store.proofs.FreshRows.{after_own}
use Rattle.history_store.proofs.Imported.{extended_catalog}

-- ---- rows with new keys are a release of their own

module _ {may_be : RowValue → Type 0} (h : History) (rows : List RowValue) (fresh : NewRows) (is : IsHistory h) (new : AreNewByKey (full h) may_be rows fresh) where
  own : AreNewRows (full h) fresh.rows.items fresh.rows.items 0
  own = record {
    ascending = new.ascending;
    from_release = λ row there. there;
    not_known = λ row there known. new.unknown row there row known refl;
    each = λ row there unknown. there;
    counted = omega arith;
  }

  accepted : Accepts h fresh.rows.items
  accepted a b ha hb same = elim (Has-append_cases (full h) fresh.rows.items a ha) [
    | inl known ↦ elim (Has-append_cases (full h) fresh.rows.items b hb) [
      | inl other ↦ IsConsistent-from_ascending (full h) (IsAscending-map (λ (s : StampedRow). s.row) row_cmp h.rows is.ascending) a b known other same
      | inr more ↦ absurd (new.unknown b more a known same)
    ]
    | inr more ↦ elim (Has-append_cases (full h) fresh.rows.items b hb) [
      | inl known ↦ absurd (new.unknown a more b known (sym same))
      | inr other ↦ IsConsistent-from_ascending fresh.rows.items new.ascending a b more other same
    ]
  ]

  pub with_by_key : with_rows h (stamped (h.imports + 1) fresh.rows.items) ≡ after_release h fresh.rows.items
  with_by_key = after_own h fresh.rows.items is accepted own

-- ---- what is refused because there is no place for them

room_of : {D : Type 0} (u old : StoreValue D) (release : Release) → u ≡ old → IsAdmitted u.history u.catalog release → IsAdmitted old.history old.catalog release
room_of {D} u old release same left = subst (λ (x : StoreValue D). IsAdmitted x.history x.catalog release) same left

lacking : {D : Type 0} {may_be : RowValue → Type 0} (Writes : Type 0) (s : StoreValue D) (release : Release) (fresh : NewRows) (e : Refusal) → s.needs_reopen ≡ false → IsAdmitted s.history s.catalog release → BringsByKey (full s.history) may_be release fresh → IsUnprepared e (stamped (s.history.imports + 1) fresh.rows.items) s.catalog → IsRefusedFor (IsNotTakenByKey may_be Writes s.history s.catalog release) e s
lacking Writes s release fresh refusals.OutOfMemory still room brings lacks = (still, room)
lacking Writes s release fresh refusals.DiskFault still room brings lacks = absurd lacks
lacking Writes s release fresh refusals.ReopenNeeded still room brings lacks = absurd lacks
lacking Writes s release fresh refusals.NotEmpty still room brings lacks = absurd lacks
lacking Writes s release fresh refusals.Full still room brings lacks = (still, record { room = room; fresh = fresh; brings = brings; lacks = lacks })
lacking Writes s release fresh refusals.TooManySegments still room brings lacks = (still, record { room = room; fresh = fresh; brings = brings; lacks = lacks })
lacking Writes s release fresh refusals.NotAStore still room brings lacks = absurd lacks
lacking Writes s release fresh refusals.Damaged still room brings lacks = absurd lacks
lacking Writes s release fresh (refusals.Unreadable damage) still room brings lacks = absurd lacks
lacking Writes s release fresh refusals.NothingToMerge still room brings lacks = absurd lacks
lacking Writes s release fresh refusals.MergeBusy still room brings lacks = absurd lacks
lacking Writes s release fresh refusals.NoMerge still room brings lacks = absurd lacks
lacking Writes s release fresh refusals.MergeUnfinished still room brings lacks = absurd lacks
lacking Writes s release fresh refusals.CountSpent still room brings lacks = absurd lacks
lacking Writes s release fresh refusals.LaterVersion still room brings lacks = absurd lacks
lacking Writes s release fresh refusals.NotKept still room brings lacks = absurd lacks
lacking Writes s release fresh (refusals.Line file line fault) still room brings lacks = absurd lacks
lacking Writes s release fresh (refusals.Contradiction file line) still room brings lacks = absurd lacks

pub not_prepared_at_all : {D : Type 0} {may_be : RowValue → Type 0} (Writes : Type 0) (u old v mid : StoreValue D) (release : Release) (fresh : NewRows) (e : Refusal) → u ≡ old → IsAdmitted u.history u.catalog release → v ≡ mid → IsStill old mid → BringsByKey (full old.history) may_be release fresh → IsUnprepared e (stamped (v.history.imports + 1) fresh.rows.items) v.catalog → IsRefusedFor (IsNotTakenByKey may_be Writes old.history old.catalog release) e old
not_prepared_at_all {D} {may_be} Writes u old v mid release fresh e first left same still brings why =
    let at_mid : IsUnprepared e (stamped (mid.history.imports + 1) fresh.rows.items) mid.catalog = subst (λ (x : StoreValue D). IsUnprepared e (stamped (x.history.imports + 1) fresh.rows.items) x.catalog) same why in
    let here : IsUnprepared e (stamped (old.history.imports + 1) fresh.rows.items) old.catalog =
    subst (λ (h : History). IsUnprepared e (stamped (h.imports + 1) fresh.rows.items) old.catalog) still.history
    (subst (λ (x : Catalog). IsUnprepared e (stamped (mid.history.imports + 1) fresh.rows.items) x) still.catalog at_mid) in
    lacking Writes old release fresh e still.open_before (room_of u old release first left) brings here

-- ---- what is taken

pub taken_by_key : {D : Type 0} {may_be : RowValue → Type 0} (u old s : StoreValue D) (release : Release) (fresh : NewRows) (after : History) (next : Catalog) (number new : ℕ) → u ≡ old → IsAdmitted u.history u.catalog release → IsStill old s → BringsByKey (full old.history) may_be release fresh
    → after ≡ after_release s.history fresh.rows.items → IsCatalogAfter (stamped (s.history.imports + 1) fresh.rows.items) s.catalog next → number ≡ s.history.imports + 1 → new ≡ length fresh.rows.items
    → IsTakenByKey may_be old.history after old.catalog next release (record { number = number; new = new; repeated = fresh.repeated })
taken_by_key u old s release fresh after next number new first left still brings history catalog number_is count =
    let numbers : number ≡ old.history.imports + 1 = number_is ∙ ap (λ (h : History). h.imports + 1) still.history in
    record {
      room = room_of u old release first left;
      fresh = fresh;
      brings = brings;
      history = history ∙ ap (λ (h : History). after_release h fresh.rows.items) still.history;
      receipt_is = λ i. record { number = numbers i; new = count i; repeated = fresh.repeated };
      catalog_is =
          subst (λ (h : History). IsCatalogAfter (stamped (h.imports + 1) fresh.rows.items) old.catalog next) still.history
          (subst (λ (x : Catalog). IsCatalogAfter (stamped (s.history.imports + 1) fresh.rows.items) x next) still.catalog catalog);
    }

pub extended_by_key : {D : Type 0} {may_be : RowValue → Type 0} (u old v s : StoreValue D) (release : Release) (fresh : NewRows) (p : Prepared) (after : History) (next : Catalog) (number new : ℕ) → u ≡ old → IsAdmitted u.history u.catalog release → v ≡ s → IsHistory v.history → IsStill old s → BringsByKey (full old.history) may_be release fresh
    → p.index.rows ≡ stamped (v.history.imports + 1) fresh.rows.items → IsPlaced (stamped (v.history.imports + 1) fresh.rows.items) v.catalog (catalog_of p.directory v.catalog.merge) → 1 ≤ length fresh.rows.items
    → after ≡ with_rows s.history p.index.rows → next ≡ catalog_of p.directory s.catalog.merge → number ≡ v.history.imports + 1 → new ≡ length fresh.rows.items
    → IsTakenByKey may_be old.history after old.catalog next release (record { number = number; new = new; repeated = fresh.repeated })
extended_by_key {D} {may_be} u old v s release fresh p after next number new first left same is still brings shown placed some history catalog number_is count =
    let own_history : IsHistory s.history = subst (λ (x : StoreValue D). IsHistory x.history) same is in
    let keys : AreNewByKey (full s.history) may_be brings.rows fresh = subst (λ (h : History). AreNewByKey (full h) may_be brings.rows fresh) (sym still.history) brings.new_by_key in
    let all : p.index.rows ≡ stamped (s.history.imports + 1) fresh.rows.items = shown ∙ ap (λ (x : StoreValue D). stamped (x.history.imports + 1) fresh.rows.items) same in
    taken_by_key u old s release fresh after next number new first left still brings
    (history ∙ ap (λ (l : List StampedRow). with_rows s.history l) all ∙ with_by_key s.history brings.rows fresh own_history keys)
    (subst (λ (x : Catalog). IsCatalogAfter (stamped (s.history.imports + 1) fresh.rows.items) s.catalog x) (sym catalog) (extended_catalog v s fresh p same placed some))
    (number_is ∙ ap (λ (x : StoreValue D). x.history.imports + 1) same) count
