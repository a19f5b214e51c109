-- One row was read, and its line was added.
use Rattle.std.proofs.Common.{◌≡◌, ℕ, Option, Some, None, false, Ok, List, [], ◌∷◌, ◌++◌, take, map, refl, sym, ap, subst, ◌∙◌, append-nil}
use Rattle.std.specs.List.{filter, slice_get}
use Rattle.std.proofs.lemmas.List.Concat.{flat_map-cons}
use Rattle.sha2.specs.declared.Sha256.{Sha256}
use Rattle.sha2.specs.Hashers.{Holds256}
use Rattle.rf2_values.specs.declared.key.Key.{Key}
use Rattle.rf2_values.specs.Row.{RowValue}
use Rattle.rf2_values.specs.Key.{key_of}
use Rattle.history_model.specs.KeyOrder.{is_after, rows_after}
use Rattle.history_model.specs.History.{rows_at}
use Rattle.as_of_index.specs.Reader.{AreFor}
use Rattle.disk_model.specs.View.{DiskView}
use Rattle.history_store.specs.StoreValue.{StoreValue}
use Rattle.history_store.specs.Queries.{IsRowsQueryBy, IsStoredFor}
use Rattle.history_store.proofs.Returned.{keyed_same}
use Rattle.store_digest.specs.Digest.{text_line, text_of}
use Rattle.store_digest.specs.Private.{IsNextAdded}
use Rattle.store_digest.proofs.Composed.{answered_otherwise}

none_behind : (row : RowValue) (rest : List RowValue) (after : Option Key) (rows : List RowValue) → map key_of (row ∷ rest) ≡ map key_of (rows_after after 1 rows) → rest ≡ []
unfolding rows_after
none_behind row [] after rows e = refl
none_behind row (next ∷ rest) after rows e = by (filter (is_after after) rows) e where
  by : (ys : List RowValue) → key_of row ∷ key_of next ∷ map key_of rest ≡ map key_of (take 1 ys) → next ∷ rest ≡ []
  by [] f = absurd (cc)
  by (b ∷ ys) f = absurd (cc)

-- of rows that are the first one after a key, there is one
pub one_only : (items : List RowValue) (row : RowValue) (after : Option Key) (rows : List RowValue) → slice_get items 0 ≡ Some row → map key_of items ≡ map key_of (rows_after after 1 rows) → items ≡ row ∷ []
one_only [] row after rows e keys = absurd (cc)
one_only (first ∷ rest) row after rows e keys =
    let same : first ≡ row = cc in
    ap (λ x. x ∷ rest) same ∙ ap (λ xs. row ∷ xs) (none_behind first rest after rows keys)

-- a list that has no first item has none
pub none_first : (items : List RowValue) → None ≡ slice_get items 0 → items ≡ []
none_first [] e = refl
none_first (row ∷ rest) e = absurd (cc)

module _ {D : Type 0} (view : D → DiskView) (pin : ℕ) (after : Option Key) (old new : StoreValue D) where
  pub row_added : {T : Type 0} (rows_of : T → List RowValue) (x : T) (row : RowValue) (key : Key) (before more : Sha256) → IsRowsQueryBy false (Ok x) rows_of (rows_after after 1) pin view old new → slice_get (rows_of x) 0 ≡ Some row → key ≡ key_of row → ((m : List ℕ) → Holds256 before m → Holds256 more (m ++ text_line row)) → IsNextAdded (Ok (Some key)) after pin before more view old new
  row_added rows_of x row key before more q first key_is holds =
      let keys = keyed_same (IsStoredFor view old) (λ x y r. r.key) (rows_of x) _ q.stored in
      let one = one_only (rows_of x) row after _ first keys in
      let text : text_line row ≡ text_of (row ∷ []) = sym (append-nil (text_line row)) ∙ sym (flat_map-cons text_line row []) in
      record {
        hashed = record {
          read = row ∷ [];
          each = subst (λ (xs : List RowValue). AreFor false (IsStoredFor view old) xs (rows_after after 1 (rows_at pin old.history.rows))) one q.stored;
          found = λ h. sym one ∙ q.found h;
          holds = λ m holding. subst (λ t. Holds256 more (m ++ t)) text (holds m holding);
        };
        steady = q.steady;
        key = ap (λ k. k ∷ []) key_is ∙ ap (map key_of) (sym one) ∙ keys;
        causes = λ none. tt;
        query = answered_otherwise view old new x (Some key) q.query;
        other_calls = q.other_calls;
        looked_up = q.looked_up;
        bytes_read = q.bytes_read_always;
      }

  pub none_added : {T : Type 0} (rows_of : T → List RowValue) (x : T) (hasher : Sha256) → IsRowsQueryBy false (Ok x) rows_of (rows_after after 1) pin view old new → rows_of x ≡ [] → IsNextAdded (Ok None) after pin hasher hasher view old new
  none_added rows_of x hasher q none = (
      let keys = keyed_same (IsStoredFor view old) (λ x y r. r.key) (rows_of x) _ q.stored in record {
        hashed = record {
          read = [];
          each = subst (λ (xs : List RowValue). AreFor false (IsStoredFor view old) xs (rows_after after 1 (rows_at pin old.history.rows))) none q.stored;
          found = λ h. sym none ∙ q.found h;
          holds = λ m holding. subst (Holds256 hasher) (sym (append-nil m)) holding;
        };
        steady = q.steady;
        key = ap (map key_of) (sym none) ∙ keys;
        causes = λ none. tt;
        query = answered_otherwise view old new x None q.query;
        other_calls = q.other_calls;
        looked_up = q.looked_up;
        bytes_read = q.bytes_read_always;
      })
