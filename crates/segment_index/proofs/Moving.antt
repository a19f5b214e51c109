-- Places that are moved behind one another.
use Rattle.std.specs.List.{AllZip, sum_by}
use Rattle.std.proofs.Common.{◌≡◌, inl, inr, ℕ, suc, ◌+◌, List, [], ◌∷◌, ◌++◌, length, map, refl, sym, ap, ◌∙◌, arith, length-append}
use Rattle.std.proofs.lemmas.List.Sums.{sum_by-cons, sum_by-append}
use Rattle.history_model.specs.declared.stamped.StampedRow.{StampedRow}
use Rattle.history_model.specs.InOrder.{Has}
use Rattle.segment.specs.declared.place.RowPlace.{RowPlace}
use Rattle.segment.specs.Records.{record_of, segment_of}
use Rattle.segment.specs.Standing.{record_len, row_place, with_places}
use Rattle.merge.specs.declared.Taken.{Taken}
use Rattle.merge.specs.Merged.{StandsTaken}
use Rattle.segment_index.specs.Private.{moved_from}

abbrev bytes_of : Taken → ℕ
bytes_of t = t.place.bytes

abbrev pub places_from : ℕ → List StampedRow → List RowPlace
places_from at rows = map (λ (x : StampedRow × RowPlace). x.1) (with_places at rows)

-- one place more
pub moved_push : (at : ℕ) (taken : List Taken) (t : Taken) → moved_from at (taken ++ t ∷ []) ≡ moved_from at taken ++ (record t.place { at = at + sum_by bytes_of taken }) ∷ []
moved_push at [] t = let none : at ≡ at + sum_by bytes_of [] = omega arith in ap (λ (n : ℕ). (record t.place { at = n }) ∷ []) none
moved_push at (u ∷ taken) t =
    let same : (at + bytes_of u) + sum_by bytes_of taken ≡ at + sum_by bytes_of (u ∷ taken) = omega (arith, sum_by-cons bytes_of u taken) in
    ap (λ (l : List RowPlace). (record u.place { at = at }) ∷ l) (moved_push (at + bytes_of u) taken t ∙ ap (λ (n : ℕ). moved_from (at + bytes_of u) taken ++ (record t.place { at = n }) ∷ []) same)

pub bytes_push : (taken : List Taken) (t : Taken) → sum_by bytes_of (taken ++ t ∷ []) ≡ sum_by bytes_of taken + bytes_of t
bytes_push taken t = omega (arith, sum_by-append bytes_of taken (t ∷ []), sum_by-cons bytes_of t [])

-- the place of a row is made of the row and of a byte
record IsPlaceOf (s : StampedRow) (p : RowPlace) : Type 0 where
  at : ℕ
  is : p ≡ row_place s at

stood : (from : ℕ) (rows : List StampedRow) (s : StampedRow) (p : RowPlace) → Has (with_places from rows) (s, p) → IsPlaceOf s p
stood from [] s p there = absurd there
stood from (r ∷ rows) s p there = elim there [
  | inl same ↦ record { at = from; is = (let row : r ≡ s = ap (λ (x : StampedRow × RowPlace). x.0) same in let place : row_place r from ≡ p = ap (λ (x : StampedRow × RowPlace). x.1) same in sym place ∙ ap (λ (r : StampedRow). row_place r from) row) }
  | inr rest ↦ stood (from + record_len r) rows s p rest
]

moved_is : (s : StampedRow) (p : RowPlace) (at : ℕ) → IsPlaceOf s p → (record p { at = at }) ≡ row_place s at
unfolding row_place
moved_is s p at is = ap (λ (q : RowPlace). record q { at = at }) is.is

bytes_are : (s : StampedRow) (p : RowPlace) → IsPlaceOf s p → p.bytes ≡ record_len s
unfolding row_place
bytes_are s p is = ap (λ (q : RowPlace). q.bytes) is.is

-- the places of the rows that stand at those taken
pub moved_places : (a b : List StampedRow) (at : ℕ) (taken : List Taken) (rows : List StampedRow) → AllZip (StandsTaken a b) taken rows → moved_from at taken ≡ places_from at rows
moved_places a b at [] [] all = refl
moved_places a b at [] (s ∷ rows) all = absurd all
moved_places a b at (t ∷ taken) [] all = absurd all
moved_places a b at (t ∷ taken) (s ∷ rows) all =
    let is = stood 0 all.0.rows s t.place all.0.there in
    let rest = moved_places a b (at + t.place.bytes) taken rows all.1 in
    ap (λ (p : RowPlace). p ∷ moved_from (at + t.place.bytes) taken) (moved_is s t.place at is)
    ∙ ap (λ (l : List RowPlace). row_place s at ∷ l) (rest ∙ ap (λ (n : ℕ). places_from (at + n) rows) (bytes_are s t.place is))

pub moved_bytes : (a b : List StampedRow) (taken : List Taken) (rows : List StampedRow) → AllZip (StandsTaken a b) taken rows → sum_by bytes_of taken ≡ length (segment_of rows)
unfolding segment_of
moved_bytes a b [] [] all = refl
moved_bytes a b [] (s ∷ rows) all = absurd all
moved_bytes a b (t ∷ taken) [] all = absurd all
moved_bytes a b (t ∷ taken) (s ∷ rows) all =
    let is = stood 0 all.0.rows s t.place all.0.there in
    let rest = moved_bytes a b taken rows all.1 in
    omega (arith, rest, bytes_are s t.place is, sum_by-cons bytes_of t taken, length-append (record_of s) (segment_of rows))

-- rows behind others
pub places_append : (at : ℕ) (xs ys : List StampedRow) → places_from at (xs ++ ys) ≡ places_from at xs ++ places_from (at + length (segment_of xs)) ys
unfolding segment_of
places_append at [] ys = let none : at ≡ at + length (segment_of []) = omega arith in ap (λ (n : ℕ). places_from n ys) none
places_append at (x ∷ xs) ys =
    let same : (at + record_len x) + length (segment_of xs) ≡ at + length (segment_of (x ∷ xs)) = omega (arith, length-append (record_of x) (segment_of xs)) in
    ap (λ (l : List RowPlace). row_place x at ∷ l) (places_append (at + record_len x) xs ys ∙ ap (λ (n : ℕ). places_from (at + record_len x) xs ++ places_from n ys) same)

pub moved_length : (at : ℕ) (taken : List Taken) → length (moved_from at taken) ≡ length taken
moved_length at [] = refl
moved_length at (t ∷ taken) = ap suc (moved_length (at + t.place.bytes) taken)
