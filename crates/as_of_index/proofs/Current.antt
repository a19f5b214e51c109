-- Rows that stand at places, and which of them are current.
use Rattle.std.proofs.Common.{◌≡◌, ℕ, zero, suc, ◌+◌, ◌<◌, ◌≤◌, List, [], ◌∷◌, ◌++◌, length, get_or, take, map, refl, sym, ap, subst, inl, inr, ◌∙◌, arith}
use Rattle.std.specs.Prelude.{Some}
use Rattle.std.specs.List.{sum_by}
use Rattle.std.proofs.lemmas.List.Sums.{sum_by-cons, sum_by_push}
use Rattle.std.specs.Cmp.{IsTotalOrder, nat_cmp_total, on_total}
use Rattle.std.specs.declared.cmp.Ordering.{Ordering}
use Rattle.std.specs.declared.cmp.Ordering.TheVariants.{Less}
use Rattle.std.proofs.lemmas.List.{map_push}
use Rattle.rf2_values.specs.declared.key.Key.{Key}
use Rattle.rf2_values.specs.Row.{RowValue, kind_of}
use Rattle.rf2_values.specs.Key.{key_of}
use Rattle.history_model.specs.declared.stamped.StampedRow.{StampedRow}
use Rattle.history_model.specs.InOrder.{Has, IsAscending, joined}
use Rattle.history_model.specs.History.{row_cmp}
use Rattle.history_model.specs.Lists.{listed}
use Rattle.history_model.specs.Queries.{get, snapshot}
use Rattle.history_model.proofs.InOrder.{Has-all, all_from_has}
use Rattle.history_model.proofs.Snapshots.{get_is, listed_once, current_from_snapshot, IsConsistent-from_ascending, IsAscending-rows_at, IsAscending-listed, Has-listed_cases, Has-rows_at_cases, IsAscending-snapshot}
use Rattle.history_model.proofs.Items.{Has-joined_at}
use Rattle.segment.specs.declared.place.RowPlace.{RowPlace}
use Rattle.as_of_index.specs.declared.as_of.AsOf.{AsOf}
use Rattle.as_of_index.specs.declared.chosen.Chosen.{Chosen}
use Rattle.segment.specs.Standing.{places_of, StandsAt}
use Rattle.as_of_index.specs.Places.{ArePlaces}
use Rattle.as_of_index.specs.Current.{rows_seen, IsCurrentAt}
use Rattle.as_of_index.specs.Chosen.{StandAtAll}
use Rattle.as_of_index.specs.Private.Chosen.{chosen_cmp}
use Rattle.segment.proofs.Posting.{says, row_there}
use Rattle.as_of_index.proofs.Standing.{are_lists}

module _ (lists : List (List StampedRow)) (are : ArePlaces (map places_of lists)) where
  pub standing_row : (n : ℕ) (p : RowPlace) (s : StampedRow) → StandsAt lists n p s → Has (joined lists) s × (p.key ≡ key_of s.row)
  standing_row n p s w = (Has-joined_at lists n w.rows s w.list_is (row_there 0 w.rows (s, p) w.there), (says 0 w.rows (s, p) w.there).key_is)

  -- one row stands at a place
  pub one_row : (n m : ℕ) (p q : RowPlace) (s t : StampedRow) → StandsAt lists n p s → StandsAt lists m q t → p ≡ q → s ≡ t
  one_row n m p q s t a b e =
      let x = standing_row n p s a in
      let y = standing_row m q t b in
      listed_once lists (are_lists lists are) s t x.0 y.0 (sym x.1 ∙ ap (λ (z : RowPlace). z.key) e ∙ y.1)

  module _ (as_of : AsOf) where
    abbrev shown : List RowValue
    shown = rows_seen as_of lists

    -- a row that is shown is the one that stands where its key does
    pub standing_is : (n : ℕ) (p : RowPlace) (s : StampedRow) (row : RowValue) → StandsAt lists n p s → Has shown row → key_of row ≡ key_of s.row → row ≡ s.row
    standing_is n p s row w h e =
        let k = Has-rows_at_cases as_of.pin (listed lists) row h in
        let x = standing_row n p s w in
        sym k.same ∙ ap (λ (z : StampedRow). z.row) (listed_once lists (are_lists lists are) k.stamped_row s (Has-listed_cases lists k.stamped_row k.known) x.0 (ap key_of k.same ∙ e))

    pub shown_ascends : IsAscending row_cmp (snapshot shown as_of.date)
    shown_ascends = IsAscending-snapshot shown as_of.date (IsAscending-rows_at as_of.pin (listed lists) (IsAscending-listed lists))

    -- a row at the date is current where its key stands
    pub current_where : (n : ℕ) (p : RowPlace) (s : StampedRow) (row : RowValue) → StandsAt lists n p s → Has (snapshot shown as_of.date) row → p.key ≡ key_of row → (row ≡ s.row) × IsCurrentAt lists as_of n p
    current_where n p s row w h e =
        let current = current_from_snapshot shown as_of.date row h in
        let same : row ≡ s.row = standing_is n p s row w current.known (sym e ∙ (standing_row n p s w).1) in
        let found : get (kind_of row) row.id as_of.date shown ≡ Some row = get_is (kind_of row) row.id as_of.date shown row (IsConsistent-from_ascending shown (IsAscending-rows_at as_of.pin (listed lists) (IsAscending-listed lists))) current.known (record { kind_is = refl; id_is = refl }) current.early current.latest in
        (same, (s, w, ap (λ (k : Key). get k.kind k.id as_of.date shown) e ∙ found ∙ ap Some same))

-- ---- the rows of places that are current

-- places that are to be read, by id
pub chosen_total : IsTotalOrder chosen_cmp
chosen_total = on_total (λ (k : Chosen). k.at.key.id) nat_cmp_total

module _ (lists : List (List StampedRow)) (as_of : AsOf) where
  abbrev pub AllCurrent : List Chosen → Type 0
  AllCurrent ks = (k : Chosen) → Has ks k → IsCurrentAt lists as_of k.segment k.at

  abbrev pub rows_for : (ks : List Chosen) → AllCurrent ks → List StampedRow
  rows_for [] c = []
  rows_for (k ∷ ks) c = (c k (inl refl)).0 ∷ rows_for ks (λ j h. c j (inr h))

  pub stand_for : (ks : List Chosen) (c : AllCurrent ks) → StandAtAll lists ks (rows_for ks c)
  stand_for [] c = tt
  stand_for (k ∷ ks) c = ((c k (inl refl)).1, stand_for ks (λ j h. c j (inr h)))

  pub length-rows_for : (ks : List Chosen) (c : AllCurrent ks) → length (map (λ (s : StampedRow). s.row) (rows_for ks c)) ≡ length ks
  length-rows_for [] c = refl
  length-rows_for (k ∷ ks) c = ap suc (length-rows_for ks (λ j h. c j (inr h)))

  -- a row of a place that is current
  pub record IsRowAt (ks : List Chosen) (row : RowValue) : Type 0 where
    pub k : Chosen
    pub there : Has ks k
    pub s : StampedRow
    pub stands : StandsAt lists k.segment k.at s
    pub found : get k.at.key.kind k.at.key.id as_of.date (rows_seen as_of lists) ≡ Some s.row
    pub row_is : s.row ≡ row

  pub row_for : (ks : List Chosen) (c : AllCurrent ks) (row : RowValue) → Has (map (λ (s : StampedRow). s.row) (rows_for ks c)) row → IsRowAt ks row
  row_for [] c row h = absurd h
  row_for (k ∷ ks) c row h = elim h [
    | inl e ↦ (let w = c k (inl refl) in record { k = k; there = inl refl; s = w.0; stands = w.1; found = w.2; row_is = e })
    | inr t ↦ (let w = row_for ks (λ j g. c j (inr g)) row t in record { k = w.k; there = inr w.there; s = w.s; stands = w.stands; found = w.found; row_is = w.row_is })
  ]

  pub for_row : (ks : List Chosen) (c : AllCurrent ks) (k : Chosen) → Has ks k → (s : StampedRow) × StandsAt lists k.segment k.at s × (get k.at.key.kind k.at.key.id as_of.date (rows_seen as_of lists) ≡ Some s.row) × Has (map (λ (s : StampedRow). s.row) (rows_for ks c)) s.row
  for_row [] c k h = absurd h
  for_row (j ∷ ks) c k h = elim h [
    | inl e ↦ subst (λ (x : Chosen). (s : StampedRow) × StandsAt lists x.segment x.at s × (get x.at.key.kind x.at.key.id as_of.date (rows_seen as_of lists) ≡ Some s.row) × Has (map (λ (s : StampedRow). s.row) (rows_for (j ∷ ks) c)) s.row) e
        (let w = c j (inl refl) in (w.0, w.1, w.2, inl refl))
    | inr t ↦ (let w = for_row ks (λ i g. c i (inr g)) k t in (w.0, w.1, w.2, inr w.3))
  ]

  -- where one place is before another its row is
  pub ascending_rows_for : (rank : RowValue → RowValue → Ordering) (cmp : Chosen → Chosen → Ordering) (ks : List Chosen) (c : AllCurrent ks)
      → ((j k : Chosen) (s t : StampedRow) → Has ks j → Has ks k → StandsAt lists j.segment j.at s → StandsAt lists k.segment k.at t → cmp j k ≡ Less → rank s.row t.row ≡ Less)
      → IsAscending cmp ks → IsAscending rank (map (λ (s : StampedRow). s.row) (rows_for ks c))
  ascending_rows_for rank cmp [] c less up = tt
  ascending_rows_for rank cmp (k ∷ ks) c less up = (
    all_from_has (λ y. rank (c k (inl refl)).0.row y ≡ Less) (map (λ (s : StampedRow). s.row) (rows_for ks (λ j h. c j (inr h)))) (λ y h.
        let w = row_for ks (λ j h. c j (inr h)) y h in
        subst (λ z. rank (c k (inl refl)).0.row z ≡ Less) w.row_is
        (less k w.k (c k (inl refl)).0 w.s (inl refl) (inr w.there) (c k (inl refl)).1 w.stands (Has-all (λ j. cmp k j ≡ Less) ks w.k up.0 w.there))),
    ascending_rows_for rank cmp ks (λ j h. c j (inr h)) (λ i j s t a b. less i j s t (inr a) (inr b)) up.1,
  )

-- ---- reading them one after the other

pub stand_at : (lists : List (List StampedRow)) (ks : List Chosen) (rows : List StampedRow) (i : ℕ) (k : Chosen) → StandAtAll lists ks rows → i < length ks → k ≡ get_or ks i k → (s : StampedRow) × StandsAt lists k.segment k.at s × (take (i + 1) rows ≡ take i rows ++ s ∷ [])
stand_at lists [] rows i k a lt e = absurd (omega arith)
stand_at lists (j ∷ ks) [] i k a lt e = absurd a
stand_at lists (j ∷ ks) (s ∷ rows) zero k a lt e = (s, subst (λ (x : Chosen). StandsAt lists x.segment x.at s) (sym e) a.0, refl)
stand_at lists (j ∷ ks) (s ∷ rows) (suc i) k a lt e = let w = stand_at lists ks rows i k a.1 (omega arith) e in let plus : suc i + 1 ≡ suc (i + 1) = omega arith in (w.0, w.1, ap (λ n. take n (s ∷ rows)) plus ∙ ap (λ xs. s ∷ xs) w.2)

pub stand_end : (lists : List (List StampedRow)) (ks : List Chosen) (rows : List StampedRow) (i : ℕ) → StandAtAll lists ks rows → length ks ≤ i → take i rows ≡ rows
stand_end lists [] [] zero a le = refl
stand_end lists [] [] (suc i) a le = refl
stand_end lists [] (s ∷ rows) i a le = absurd a
stand_end lists (j ∷ ks) [] i a le = absurd a
stand_end lists (j ∷ ks) (s ∷ rows) zero a le = absurd (omega arith)
stand_end lists (j ∷ ks) (s ∷ rows) (suc i) a le = ap (λ xs. s ∷ xs) (stand_end lists ks rows i a.1 (omega arith))

-- ---- what reading the rows takes

pub rows_push : (f : RowValue → ℕ) (rows : List StampedRow) (s : StampedRow) → sum_by f (map (λ (t : StampedRow). t.row) (rows ++ s ∷ [])) ≡ sum_by f (map (λ (t : StampedRow). t.row) rows) + f s.row
rows_push f rows s = ap (sum_by f) (map_push (λ (t : StampedRow). t.row) rows s) ∙ sum_by_push f (map (λ (t : StampedRow). t.row) rows) s.row

-- the first rows take no more than all
pub first_rows : (f : RowValue → ℕ) (k : ℕ) (rows : List StampedRow) → sum_by f (map (λ (t : StampedRow). t.row) (take k rows)) ≤ sum_by f (map (λ (t : StampedRow). t.row) rows)
first_rows f zero rows = omega arith
first_rows f (suc k) [] = omega arith
first_rows f (suc k) (s ∷ rows) =
    let one = sum_by-cons f s.row (map (λ (t : StampedRow). t.row) (take k rows)) in
    let all = sum_by-cons f s.row (map (λ (t : StampedRow). t.row) rows) in
    let rest = first_rows f k rows in
    omega arith
