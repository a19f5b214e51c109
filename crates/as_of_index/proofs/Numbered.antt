-- Rows and places by their numbers in their lists.
use Rattle.std.proofs.Common.{◌≡◌, ℕ, zero, suc, ◌+◌, ◌<◌, ◌≤◌, List, [], ◌∷◌, length, get_or, map, refl, sym, ap, subst, inl, inr}
use Rattle.std.specs.Prelude.{Option, Some, None, slice_get}
use Rattle.std.specs.Option.{option_to_list}
use Rattle.std.proofs.lemmas.List.{get_or_past}
use Rattle.std.proofs.lemmas.Option.{get_or_from_slice_get, slice_get_read}
use Rattle.history_model.specs.declared.stamped.StampedRow.{StampedRow}
use Rattle.history_model.specs.InOrder.{Has}
use Rattle.segment.specs.declared.place.RowPlace.{RowPlace}
use Rattle.segment.specs.Standing.{record_len, row_place, with_places, StandsAt}
use Rattle.as_of_index.specs.Places.{item_at}
use Rattle.as_of_index.specs.Current.{IsPlaceOfRow}

-- ---- an item of a list of lists

pub item_within : {X : Type 0} (lists : List (List X)) (n i : ℕ) (xs : List X) → n < length lists → xs ≡ get_or lists n xs → slice_get xs i ≡ item_at lists n i
item_within lists n i xs lt is = ap (λ l. slice_get l i) (sym (get_or_from_slice_get lists n xs [] (slice_get_read lists (length lists) n xs refl lt is)))

pub item_past : {X : Type 0} (lists : List (List X)) (n i : ℕ) → length lists ≤ n → item_at lists n i ≡ None
item_past lists n i le = ap (λ l. slice_get l i) (get_or_past lists n [] le)

-- ---- a row and its place have the same number

placed_at : (at : ℕ) (rows : List StampedRow) (i : ℕ) (s : StampedRow) (p : RowPlace) → slice_get rows i ≡ Some s → slice_get (map (λ (x : StampedRow × RowPlace). x.1) (with_places at rows)) i ≡ Some p → Has (with_places at rows) (s, p)
placed_at at [] i s p e f = absurd (cc)
placed_at at (r ∷ rows) zero s p e f =
    let row : r ≡ s = cc in
    let place : row_place r at ≡ p = cc in
    inl (λ k. (row k, place k))
placed_at at (r ∷ rows) (suc i) s p e f = inr (placed_at (at + record_len r) rows i s p e f)

place_at : (at : ℕ) (rows : List StampedRow) (i : ℕ) (s : StampedRow) → slice_get rows i ≡ Some s → (p : RowPlace) × (slice_get (map (λ (x : StampedRow × RowPlace). x.1) (with_places at rows)) i ≡ Some p)
place_at at [] i s e = absurd (cc)
place_at at (r ∷ rows) zero s e = (row_place r at, refl)
place_at at (r ∷ rows) (suc i) s e = place_at (at + record_len r) rows i s e

-- the row that stands at the place
pub stands_there : (lists : List (List StampedRow)) (n i : ℕ) (s : StampedRow) (p : RowPlace) → item_at lists n i ≡ Some s → IsPlaceOfRow lists n i p → StandsAt lists n p s
stands_there [] n i s p e f = absurd (cc)
stands_there (rows ∷ lists) zero i s p e f = record { rows = rows; list_is = refl; there = placed_at 0 rows i s p e f }
stands_there (rows ∷ lists) (suc n) i s p e f = let w = stands_there lists n i s p e f in record { rows = w.rows; list_is = w.list_is; there = w.there }

pub place_of_row : (lists : List (List StampedRow)) (n i : ℕ) (s : StampedRow) → item_at lists n i ≡ Some s → (p : RowPlace) × IsPlaceOfRow lists n i p
place_of_row [] n i s e = absurd (cc)
place_of_row (rows ∷ lists) zero i s e = place_at 0 rows i s e
place_of_row (rows ∷ lists) (suc n) i s e = place_of_row lists n i s e

-- ---- what is among the pieces of a list

pub Has-option : {X Y : Type 0} (f : X → Y) (o : Option X) (y : Y) → Has (map f (option_to_list o)) y → (x : X) × (o ≡ Some x) × (f x ≡ y)
Has-option f None y h = absurd h
Has-option f (Some x) y h = elim h [ inl e ↦ (x, refl, e) | inr k ↦ absurd k ]

pub Has-option_from : {X Y : Type 0} (f : X → Y) (o : Option X) (x : X) → o ≡ Some x → Has (map f (option_to_list o)) (f x)
Has-option_from f o x e = subst (λ p. Has (map f (option_to_list p)) (f x)) (sym e) (inl refl)
