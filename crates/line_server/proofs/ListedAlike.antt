-- What a catalog decides, it decides without the checksums of its segments.
use Rattle.std.proofs.Common.{◌≡◌, ◌⊎◌, ℕ, zero, suc, ◌+◌, ◌++◌, ◌^◌, ◌<◌, ◌≤◌, length, map, Bool, Option, Some, None, List, [], ◌∷◌, Result, Ok, Err, refl, sym, ap, subst, ◌∙◌, inl, inr}
use Rattle.std.specs.Prelude.{slice_get, slice_set, slice_index, remove, option_map}
use Rattle.std.specs.Option.{option_to_list}
use Rattle.std.specs.Int.{div_ceil}
use Rattle.std.proofs.lemmas.List.{length-map, map-append}
use Rattle.std.proofs.lemmas.Option.{slice_get-map}
use Rattle.history_model.specs.declared.stamped.StampedRow.{StampedRow}
use Rattle.history_model.specs.declared.receipt.Receipt.{Receipt}
use Rattle.history_model.specs.History.{History}
use Rattle.import_check.specs.declared.release.Release.{Release}
use Rattle.blocks.specs.declared.extent.Extent.{Extent}
use Rattle.blocks.specs.Extents.{block_count, block_limit}
use Rattle.directory.specs.declared.entry.Entry.{Entry}
use Rattle.directory.specs.declared.layout.Layout.{Layout}
use Rattle.directory.specs.Listings.{most_entries}
use Rattle.directory.specs.Places.{extents_of, extent_of, taken}
use Rattle.directory.specs.Fit.{fit, fit_below}
use Rattle.segment.specs.Records.{segment_of}
use Rattle.store_image.specs.Kept.{entry_at}
use Rattle.history_store.specs.declared.refusal.Refusal.{Refusal}
use Rattle.history_store.specs.declared.refusal.Refusal.TheVariants as store
use Rattle.history_store.specs.Catalog.{Catalog, IsCatalogAfter, HasNoEntry, HasNoPlace, next_catalog, place_for, reserved_by}
use Rattle.history_store.specs.StoreValue.{StoreValue, last_import, last_epoch}
use Rattle.history_store.specs.Prepared.{IsAdmitted, IsNotSpent, IsForLater, scope_of}
use Rattle.history_store.specs.Answers.{IsNotTaken, IsRefusedFor, IsRefused, IsImportOf}
use Rattle.history_store.specs.Merging.{AreFewest, ComesFirst, Inputs, IsBegun, HasNoOutput}
use Rattle.history_store.specs.MergeAnswers.{IsUnbegun, IsNotBegun, IsBeginningOf}
use Rattle.line_server.specs.Laws.{entry_without_sums, without_sums}

-- ---- lists of entries

bare_extents : (entries : List Entry) → extents_of (map entry_without_sums entries) ≡ extents_of entries
bare_extents [] = refl
bare_extents (entry ∷ entries) = ap (λ (rest : List Extent). extent_of entry ∷ rest) (bare_extents entries)

bare_rows : (entries : List Entry) → map (λ (e : Entry). e.rows) (map entry_without_sums entries) ≡ map (λ (e : Entry). e.rows) entries
bare_rows [] = refl
bare_rows (entry ∷ entries) = ap (λ (rest : List ℕ). entry.rows ∷ rest) (bare_rows entries)

bare_fit : (blocks : ℕ) (live : List Entry) (reserved : Option Extent) → fit blocks (map entry_without_sums live) reserved ≡ fit blocks live reserved
unfolding fit
bare_fit blocks live reserved = ap (λ (xs : List Extent). fit_below block_limit blocks (xs ++ option_to_list reserved)) (bare_extents live)

pub bare_set : (entries : List Entry) (i : ℕ) (entry : Entry) → map entry_without_sums (slice_set entries i entry) ≡ slice_set (map entry_without_sums entries) i (entry_without_sums entry)
bare_set [] i entry = refl
bare_set (x ∷ entries) zero entry = refl
bare_set (x ∷ entries) (suc i) entry = ap (λ (rest : List Entry). entry_without_sums x ∷ rest) (bare_set entries i entry)

pub bare_remove : (entries : List Entry) (i : ℕ) → map entry_without_sums (remove entries i) ≡ remove (map entry_without_sums entries) i
bare_remove [] zero = refl
bare_remove [] (suc i) = refl
bare_remove (x ∷ entries) zero = refl
bare_remove (x ∷ entries) (suc i) = ap (λ (rest : List Entry). entry_without_sums x ∷ rest) (bare_remove entries i)

pub bare_length : (entries : List Entry) → length (map entry_without_sums entries) ≡ length entries
bare_length entries = length-map entries entry_without_sums

pub bare_get : (entries : List Entry) (i : ℕ) (entry : Entry) → slice_get entries i ≡ Some entry → slice_get (map entry_without_sums entries) i ≡ Some (entry_without_sums entry)
bare_get entries i entry is = slice_get-map entry_without_sums entries i ∙ ap (option_map entry_without_sums) is

-- ---- an import

-- the catalog with one more entry, at the next epoch
abbrev appended : Catalog → Entry → Catalog
appended catalog entry = record (next_catalog catalog) { entries = catalog.entries ++ entry ∷ [] }

bare_appended : (catalog : Catalog) (entry : Entry) → without_sums (appended catalog entry) ≡ appended (without_sums catalog) (entry_without_sums entry)
bare_appended catalog entry =
    ap (λ (entries : List Entry). record (next_catalog catalog) { entries = entries }) (map-append entry_without_sums catalog.entries (entry ∷ []))

-- two catalogs that differ in checksums alone
module _ (c d : Catalog) (alike : without_sums d ≡ without_sums c) where
  same_length : length c.entries ≡ length d.entries
  same_length = sym (bare_length c.entries) ∙ ap (λ (k : Catalog). length k.entries) (sym alike) ∙ bare_length d.entries

  same_fit : (blocks : ℕ) → fit blocks c.entries (reserved_by c.merge) ≡ fit blocks d.entries (reserved_by d.merge)
  same_fit blocks =
      sym (bare_fit blocks c.entries (reserved_by c.merge))
      ∙ ap (λ (k : Catalog). fit blocks k.entries (reserved_by k.merge)) (sym alike)
      ∙ bare_fit blocks d.entries (reserved_by d.merge)

  same_place : (rows : List StampedRow) → place_for rows c ≡ place_for rows d
  same_place rows = same_fit (block_count (record { first = 0; bytes = length (segment_of rows) }))

  same_next : (rows : List StampedRow) (next : Catalog) → IsCatalogAfter rows d next → (other : Catalog) × IsCatalogAfter rows c other × (without_sums other ≡ without_sums next)
  same_next [] next after = (next_catalog c, refl, ap next_catalog (sym alike) ∙ ap without_sums (sym after))
  same_next (s ∷ rows) next after =
      let added : Layout → Entry = λ layout. entry_at layout after.first (s ∷ rows) in (
        appended c (added c.layout),
        record {
          few = subst (λ (n : ℕ). n < most_entries c.layout) (sym same_length) (subst (λ (k : Catalog). length d.entries < most_entries k.layout) alike after.few);
          short = after.short;
          first = after.first;
          place = same_place (s ∷ rows) ∙ after.place;
          next_is = refl;
        },
        bare_appended c (added c.layout)
            ∙ ap (λ (k : Catalog). appended k (entry_without_sums (added d.layout))) (sym alike)
            ∙ sym (bare_appended d (added d.layout))
            ∙ ap without_sums (sym after.next_is),
      )

  admitted : (h : History) (release : Release) → IsAdmitted h d release → IsAdmitted h c release
  admitted h release a = record {
    room = subst (λ (k : Catalog). IsNotSpent h.imports k.epoch) alike a.room;
    not_later = subst (λ (k : Catalog). IsForLater (scope_of k) release → ⊥) alike a.not_later;
  }

  no_entry : (rows : List StampedRow) → HasNoEntry rows d → HasNoEntry rows c
  no_entry rows lacks = record {
    some = lacks.some;
    all_taken = same_length ∙ subst (λ (k : Catalog). length d.entries ≡ most_entries k.layout) alike lacks.all_taken;
  }

  no_place : (rows : List StampedRow) → HasNoPlace rows d → HasNoPlace rows c
  no_place rows lacks = record {
    some = lacks.some;
    few = subst (λ (n : ℕ). n < most_entries c.layout) (sym same_length) (subst (λ (k : Catalog). length d.entries < most_entries k.layout) alike lacks.few);
    none = elim lacks.none [ inl long ↦ inl long | inr none ↦ inr (same_place rows ∙ none) ];
  }

  same_why : (h : History) (release : Release) (e : Refusal) → IsNotTaken h d release e → IsNotTaken h c release e
  same_why h release store.OutOfMemory why = admitted h release why
  same_why h release store.DiskFault why = (admitted h release why.0, why.1)
  same_why h release store.CountSpent why = subst (λ (k : Catalog). (h.imports ≡ last_import) ⊎ (k.epoch ≡ last_epoch)) alike why
  same_why h release store.LaterVersion why = subst (λ (k : Catalog). IsNotSpent h.imports k.epoch × IsForLater (scope_of k) release) alike why
  same_why h release (store.Line file line fault) why = (admitted h release why.0, why.1)
  same_why h release (store.Contradiction file line) why = (admitted h release why.0, why.1)
  same_why h release store.TooManySegments why = record { room = admitted h release why.room; accepted = why.accepted; lacks = no_entry _ why.lacks }
  same_why h release store.Full why = record { room = admitted h release why.room; accepted = why.accepted; lacks = no_place _ why.lacks }
  same_why h release _ why = why

-- the second store with the catalog of the first
abbrev pub listed_as : {D : Type 0} → StoreValue D → StoreValue D → StoreValue D
listed_as a b = record b { catalog = a.catalog }

module _ {D : Type 0} (a b next : StoreValue D) (alike : without_sums b.catalog ≡ without_sums a.catalog) (release : Release) where
  not_imported : (e : Refusal) → IsRefusedFor (IsNotTaken b.history b.catalog release) e b → IsRefusedFor (IsNotTaken b.history a.catalog release) e (listed_as a b)
  not_imported store.ReopenNeeded why = why
  not_imported e why = (why.0, same_why a.catalog b.catalog alike b.history release e why.1)

  -- an import at one of the catalogs is one at the other
  pub imported_alike : (result : Result Receipt Refusal) → IsImportOf result b next release
      → (other : StoreValue D) × IsImportOf result (listed_as a b) other release
      × (other.history ≡ next.history) × (without_sums other.catalog ≡ without_sums next.catalog) × (other.needs_reopen ≡ next.needs_reopen)
  imported_alike (Ok receipt) i =
      let t = i.0 in
      let then_listed = same_next a.catalog b.catalog alike _ next.catalog t.catalog_is in (
        record next { catalog = then_listed.0 },
        (record { room = admitted a.catalog b.catalog alike b.history release t.room; accepted = t.accepted; history = t.history; receipt_is = t.receipt_is; catalog_is = then_listed.1 }, i.1, i.2),
        refl,
        then_listed.2,
        refl,
      )
  imported_alike (Err e) i = (
    record next { catalog = a.catalog },
    (not_imported e i.0, record { history = i.1.history; catalog = refl; closed = i.1.closed; still = i.1.still }),
    refl,
    sym alike ∙ ap without_sums (sym i.1.catalog),
    refl,
  )

-- ---- the beginning of a merge

module _ (entries : List Entry) where
  first_of : (p q : ℕ) → ComesFirst entries p q → ComesFirst (map entry_without_sums entries) p q
  first_of p q h =
      subst (λ (rows : List ℕ). (slice_index rows p < slice_index rows q) ⊎ ((slice_index rows p ≡ slice_index rows q) × (p < q))) (sym (bare_rows entries)) h

  bare_fewest : (i j : ℕ) → AreFewest entries i j → AreFewest (map entry_without_sums entries) i j
  bare_fewest i j x = record {
    below = x.below;
    within = subst (λ (n : ℕ). j < n) (sym (bare_length entries)) x.within;
    first = λ k within other another. first_of i k (x.first k (subst (λ (n : ℕ). k < n) (bare_length entries) within) other another);
    second = λ k within other another. first_of j k (x.second k (subst (λ (n : ℕ). k < n) (bare_length entries) within) other another);
  }

  abbrev bare_inputs : Inputs entries → Inputs (map entry_without_sums entries)
  bare_inputs x = record {
    i = x.i;
    j = x.j;
    a = entry_without_sums x.a;
    b = entry_without_sums x.b;
    fewest = bare_fewest x.i x.j x.fewest;
    a_is = bare_get entries x.i x.a x.a_is;
    b_is = bare_get entries x.j x.b x.b_is;
  }

  bare_no_output : HasNoOutput entries → HasNoOutput (map entry_without_sums entries)
  bare_no_output x = record {
    inputs = bare_inputs x.inputs;
    lacks = elim x.lacks [ inl long ↦ inl long | inr none ↦ inr (bare_fit (div_ceil (x.inputs.a.bytes + x.inputs.b.bytes) 4096) entries None ∙ none) ];
  }

bare_begun : (catalog next : Catalog) (left : ℕ) → IsBegun catalog next left → IsBegun (without_sums catalog) (without_sums next) left
bare_begun catalog next left x = record {
  none = x.none;
  inputs = bare_inputs catalog.entries x.inputs;
  first = x.first;
  short = x.short;
  place = bare_fit (div_ceil (x.inputs.a.bytes + x.inputs.b.bytes) 4096) catalog.entries None ∙ x.place;
  left_is = x.left_is;
  next_is = ap without_sums x.next_is;
}

bare_unbegun : (e : Refusal) (entries : List Entry) → IsUnbegun e entries → IsUnbegun e (map entry_without_sums entries)
bare_unbegun store.NothingToMerge entries few = subst (λ (n : ℕ). n < 2) (sym (bare_length entries)) few
bare_unbegun store.Full entries lacks = bare_no_output entries lacks
bare_unbegun _ entries why = why

bare_not_begun : (e : Refusal) (catalog : Catalog) → IsNotBegun catalog e → IsNotBegun (without_sums catalog) e
bare_not_begun store.MergeBusy catalog busy = busy
bare_not_begun e catalog why = (why.0, bare_unbegun e catalog.entries why.1)

module _ {D : Type 0} where
  -- the store as its catalog lists it without checksums
  abbrev pub bare_store : StoreValue D → StoreValue D
  bare_store s = record s { catalog = without_sums s.catalog }

  bare_refused_for : (e : Refusal) (s : StoreValue D) → IsRefusedFor (IsNotBegun s.catalog) e s → IsRefusedFor (IsNotBegun (without_sums s.catalog)) e (bare_store s)
  bare_refused_for store.ReopenNeeded s why = why
  bare_refused_for e s why = (why.0, bare_not_begun e s.catalog why.1)

  pub bare_beginning : (result : Result ℕ Refusal) (old new : StoreValue D) → IsBeginningOf result old new → IsBeginningOf result (bare_store old) (bare_store new)
  bare_beginning (Ok left) old new h = (
    bare_begun old.catalog new.catalog left h.0,
    record { history = h.1.history; was_open = h.1.was_open; open_still = h.1.open_still },
  )
  bare_beginning (Err e) old new h = (
    bare_refused_for e old h.0,
    record { history = h.1.history; catalog = ap without_sums h.1.catalog; closed = h.1.closed; still = h.1.still },
  )
