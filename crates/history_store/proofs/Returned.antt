-- What is known of rows that a reader returned for wanted ones.
use Rattle.std.proofs.Common.{◌≡◌, ℕ, Bool, true, false, List, [], ◌∷◌, map, refl, sym, ap, subst, ◌∙◌}
use Rattle.std.specs.List.{AllZip}
use Rattle.std.specs.List.Sorted.{IsPermutation}
use Rattle.std.proofs.lemmas.List.Elements.{same_from_all_zip}
use Rattle.std.proofs.lemmas.List.Sorted.{IsPermutation-sym, IsPermutation-trans, IsPermutation-map}
use Rattle.rf2_values.specs.declared.key.Key.{Key}
use Rattle.rf2_values.specs.Row.{RowValue}
use Rattle.rf2_values.specs.Key.{key_of}
use Rattle.history_model.specs.declared.stamped.StampedRow.{StampedRow}
use Rattle.segment.specs.declared.place.RowPlace.{RowPlace}
use Rattle.segment.proofs.Posting.{says}
use Rattle.lru.specs.LruCache.{LruCache}
use Rattle.disk_model.specs.View.{DiskView}
use Rattle.blocks.specs.Cache.{ShowsFile}
use Rattle.directory.specs.declared.entry.Entry.{Entry}
use Rattle.as_of_index.specs.Reader.{ReaderView, IsReadFor, ArePutInOrder, AreFor}
use Rattle.as_of_index.proofs.Returned.{zip_weaker}
use Rattle.index_answers.specs.Keys.{AreSameKeys}
use Rattle.history_store.specs.Stored.{IsRecordOf, MayBe, IsStored}
use Rattle.history_store.specs.Private.Reading.{MayBeRead}
use Rattle.history_store.specs.StoreValue.{StoreValue}
use Rattle.history_store.specs.Queries.{IsStoredFor}

-- what holds of each row holds in their order
pub for_weaker : (put_in_order : Bool) (R Q : RowValue → RowValue → Type 0) → ((x y : RowValue) → R x y → Q x y) → (given wanted : List RowValue) → AreFor put_in_order R given wanted → AreFor put_in_order Q given wanted
for_weaker false R Q so given wanted each = zip_weaker R Q so given wanted each
for_weaker true R Q so given wanted o = record { read = o.read; those = o.those; each = zip_weaker R Q so o.read o.those o.each; given_are = o.given_are; wanted_are = o.wanted_are; in_order = o.in_order }

module _ (R : RowValue → RowValue → Type 0) (so : (x y : RowValue) → R x y → key_of x ≡ key_of y) where
  -- rows that have the keys of the wanted ones each
  pub keyed_same : (given wanted : List RowValue) → AllZip R given wanted → map key_of given ≡ map key_of wanted
  keyed_same [] [] each = refl
  keyed_same [] (y ∷ ys) each = absurd each
  keyed_same (x ∷ xs) [] each = absurd each
  keyed_same (x ∷ xs) (y ∷ ys) each = ap (λ k. k ∷ map key_of xs) (so x y each.0) ∙ ap (λ ks. key_of y ∷ ks) (keyed_same xs ys each.1)

  -- and were put in order
  pub keyed_moved : (given wanted : List RowValue) → ArePutInOrder R given wanted → IsPermutation (map key_of wanted) (map key_of given)
  keyed_moved given wanted o =
      IsPermutation-trans (map key_of wanted) (map key_of o.those) (map key_of given)
      (IsPermutation-sym (map key_of o.those) (map key_of wanted) (IsPermutation-map key_of o.those wanted o.wanted_are))
      (subst (λ (ks : List Key). IsPermutation ks (map key_of given)) (keyed_same o.read o.those o.each) (IsPermutation-map key_of o.read given o.given_are))

  pub keyed_for : (put_in_order : Bool) (given wanted : List RowValue) → AreFor put_in_order R given wanted → AreSameKeys put_in_order (map key_of given) (map key_of wanted)
  keyed_for false given wanted each = keyed_same given wanted each
  keyed_for true given wanted moved = keyed_moved given wanted moved

-- what is at a place, by what is read of a store's disk through its cache, is stored
pub stored_so : {D : Type 0} (view : D → DiskView) (old : StoreValue D) (lent : D) (cache : LruCache ℕ (List ℕ)) (entries : List Entry) → lent ≡ old.disk → cache ≡ old.cache → entries ≡ old.catalog.entries
    → (row : RowValue) → MayBeRead (MayBe (view lent).reads_as cache entries) row → IsStored view old row
stored_so view old lent cache entries lent_is cache_is entries_are row m = (
  m.0,
  m.1,
  m.2,
  m.3,
  λ file shows.
      subst (λ (e : List Entry). IsRecordOf e m.2 m.0 m.3 file) entries_are
      (m.4 file (subst (λ d. ShowsFile (view d).reads_as cache file) (sym lent_is) (subst (λ c. ShowsFile (view old.disk).reads_as c file) (sym cache_is) shows))),
)

module _ (shown : ReaderView) where
  exact_for : shown.is_honest → (row wanted : RowValue) → IsReadFor shown row wanted → wanted ≡ row
  exact_for honest row wanted r = r.wanted_is ∙ ap (λ (s : StampedRow). s.row) (sym (r.returned.exact honest r.there r.stands)) ∙ sym r.row_is

  -- an honest reader's rows are the wanted ones
  pub rows_exact : (put_in_order : Bool) (given wanted : List RowValue) → AreFor put_in_order (IsReadFor shown) given wanted → shown.is_honest → given ≡ wanted
  rows_exact false given wanted each honest = sym (same_from_all_zip (IsReadFor shown) given wanted each (exact_for honest))
  rows_exact true given wanted o honest = o.in_order (sym (same_from_all_zip (IsReadFor shown) o.read o.those o.each (exact_for honest)))

  -- each row that a reader of a store's disk returns is stored
  module _ {D : Type 0} (view : D → DiskView) (old : StoreValue D) (lent : D) (cache : LruCache ℕ (List ℕ)) (entries : List Entry) (lent_is : lent ≡ old.disk) (cache_is : cache ≡ old.cache) (entries_are : entries ≡ old.catalog.entries)
      (of_disk : (segment : ℕ) (at : RowPlace) (s : StampedRow) → shown.may_be segment at s → MayBe (view lent).reads_as cache entries segment at s) where
    pub stored_for : (row wanted : RowValue) → IsReadFor shown row wanted → IsStoredFor view old row wanted
    stored_for row wanted r = record {
      key = ap key_of r.row_is ∙ r.returned.keyed ∙ (says 0 r.stands.rows (r.there, r.at) r.stands.there).key_is ∙ ap key_of (sym r.wanted_is);
      stored = stored_so view old lent cache entries lent_is cache_is entries_are row (r.read, r.row_is, r.segment, r.at, of_disk r.segment r.at r.read r.returned.may_be);
    }
