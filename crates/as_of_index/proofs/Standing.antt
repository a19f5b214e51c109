-- Rows and their places.
use Rattle.std.proofs.Common.{◌≡◌, ℕ, suc, ◌+◌, ◌≤◌, true, List, [], ◌∷◌, map, refl, sym, ap, subst, inl, inr, ◌∙◌, arith}
use Rattle.std.specs.Prelude.{Option, Some, None, slice_get}
use Rattle.std.specs.List.{AllByRecursion}
use Rattle.std.specs.declared.cmp.Ordering.TheVariants.{Less}
use Rattle.list_lemmas.proofs.Tests.{both_numbers, both_numbers_from}
use Rattle.rf2_values.specs.declared.row.Kind.{Kind}
use Rattle.rf2_values.specs.declared.key.Key.{Key}
use Rattle.rf2_values.specs.Row.{RowValue, kind_of}
use Rattle.rf2_values.specs.Key.{kind_place, key_of, key_cmp}
use Rattle.history_model.specs.declared.stamped.StampedRow.{StampedRow}
use Rattle.history_model.specs.InOrder.{Has, IsAscending, joined}
use Rattle.history_model.specs.History.{stamped_cmp}
use Rattle.history_model.specs.Lists.{listed, AreLists}
use Rattle.history_model.specs.Lists.{EachApart as RowsApart}
use Rattle.history_model.specs.Private.{ShareNoKey as RowsShareNoKey}
use Rattle.history_model.specs.Queries.{is_above, get}
use Rattle.history_model.proofs.InOrder.{Has-all, all_from_has, Has-append_left, Has-append_right, Has-append_cases}
use Rattle.history_model.proofs.Filtered.{Has-map, Has-map_from}
use Rattle.history_model.proofs.Keys.{same_kind}
use Rattle.history_model.proofs.Audits.{row_at}
use Rattle.history_model.proofs.Snapshots.{IsVersionOf, current_from_snapshot, get_is, get_none, IsConsistent-from_ascending, IsAscending-rows_at, IsAscending-listed, Has-listed_cases, Has-listed_from, Has-rows_at_cases, Has-rows_at_from}
use Rattle.segment.specs.Standing.{record_len}
use Rattle.segment.specs.declared.place.RowPlace.{RowPlace}
use Rattle.segment.specs.Standing.{row_place, with_places, places_of, StandsAt}
use Rattle.as_of_index.specs.declared.as_of.AsOf.{AsOf}
use Rattle.as_of_index.specs.Places.{place_cmp, EachApart, ArePlaces}
use Rattle.as_of_index.specs.Private.Search.{ShareNoKey}
use Rattle.segment.proofs.Posting.{Says, says_posted, says, placed, row_there}
use Rattle.as_of_index.specs.Search.{IsPlaceOf}
use Rattle.as_of_index.specs.Private.Search.{in_segment, all_places, is_candidate, IsPick, IsPickFrom}
use Rattle.as_of_index.proofs.Found.{Picks, candidate, candidate_test}
use Rattle.as_of_index.specs.Current.{rows_seen}

-- ---- the rows' lists are lists

ascending_rows : (at : ℕ) (rows : List StampedRow) → IsAscending place_cmp (map (λ (x : StampedRow × RowPlace). x.1) (with_places at rows)) → IsAscending stamped_cmp rows
ascending_rows at [] up = tt
ascending_rows at (r ∷ rows) up = (
  all_from_has (λ t. stamped_cmp r t ≡ Less) rows (λ t h.
      let w = placed (at + record_len r) rows t h in
      let less = Has-all (λ q. place_cmp (row_place r at) q ≡ Less) (map (λ (x : StampedRow × RowPlace). x.1) (with_places (at + record_len r) rows)) w.0 up.0 (Has-map_from (λ (x : StampedRow × RowPlace). x.1) (with_places (at + record_len r) rows) (t, w.0) w.1) in
      subst (λ k. key_cmp k (key_of t.row) ≡ Less) (says_posted r at).key_is (subst (λ k. key_cmp (row_place r at).key k ≡ Less) (says (at + record_len r) rows (t, w.0) w.1).key_is less)),
  ascending_rows (at + record_len r) rows up.1,
)

place_there : (rows : List StampedRow) (s : StampedRow) → Has rows s → (p : RowPlace) × Has (places_of rows) p × Says p s
place_there rows s h =
    let w = placed 0 rows s h in
    (w.0, Has-map_from (λ (x : StampedRow × RowPlace). x.1) (with_places 0 rows) (s, w.0) w.1, says 0 rows (s, w.0) w.1)

rows_apart : (rows others : List StampedRow) → ShareNoKey (places_of rows) (places_of others) → RowsShareNoKey rows others
rows_apart rows others apart = λ s t h k e.
    let a = place_there rows s h in
    let b = place_there others t k in
    apart a.0 b.0 a.1 b.1 (a.2.key_is ∙ e ∙ sym b.2.key_is)

ascending_lists : (lists : List (List StampedRow)) → AllByRecursion (λ places. IsAscending place_cmp places) (map places_of lists) → AllByRecursion (λ rows. IsAscending stamped_cmp rows) lists
ascending_lists [] a = tt
ascending_lists (rows ∷ lists) a = (ascending_rows 0 rows a.0, ascending_lists lists a.1)

apart_others : (rows : List StampedRow) (lists : List (List StampedRow)) → AllByRecursion (λ others. ShareNoKey (places_of rows) others) (map places_of lists) → AllByRecursion (λ others. RowsShareNoKey rows others) lists
apart_others rows [] a = tt
apart_others rows (others ∷ lists) a = (rows_apart rows others a.0, apart_others rows lists a.1)

apart_lists : (lists : List (List StampedRow)) → EachApart (map places_of lists) → RowsApart lists
apart_lists [] a = tt
apart_lists (rows ∷ lists) a = (apart_others rows lists a.0, apart_lists lists a.1)

pub are_lists : (lists : List (List StampedRow)) → ArePlaces (map places_of lists) → AreLists lists
are_lists lists a = record { ascending = ascending_lists lists a.ascending; apart = apart_lists lists a.apart }

-- ---- a place of the index and its row

-- the row stands at the place, in one of these lists, the first of which has the number k
pub record StandsFrom (k : ℕ) (lists : List (List StampedRow)) (n : ℕ) (p : RowPlace) (s : StampedRow) : Type 0 where
  pub i : ℕ
  pub number_is : n ≡ k + i
  pub rows : List StampedRow
  pub list_is : slice_get lists i ≡ Some rows
  pub there : Has (with_places 0 rows) (s, p)

pub row_of_place : (k : ℕ) (lists : List (List StampedRow)) (x : ℕ × RowPlace) → Has (all_places k (map places_of lists)) x → (s : StampedRow) × StandsFrom k lists x.0 x.1 s × Has (joined lists) s
row_of_place k [] x h = absurd h
row_of_place k (rows ∷ lists) x h = elim (Has-append_cases (in_segment k (places_of rows)) (all_places (k + 1) (map places_of lists)) x h) [
  | inl l ↦
      let m = Has-map (λ (p : RowPlace). (k, p)) (places_of rows) x l in
      let w = Has-map (λ (y : StampedRow × RowPlace). y.1) (with_places 0 rows) m.0 m.1 in
      let number : x.0 ≡ k + 0 = (let e = ap (λ (y : ℕ × RowPlace). y.0) m.2 in omega arith) in
      let place : w.0.1 ≡ x.1 = w.2 ∙ ap (λ (y : ℕ × RowPlace). y.1) m.2 in
      (w.0.0, record { i = 0; number_is = number; rows = rows; list_is = refl; there = subst (λ q. Has (with_places 0 rows) (w.0.0, q)) place w.1 }, Has-append_left rows (joined lists) w.0.0 (row_there 0 rows w.0 w.1))
  | inr r ↦
      let w = row_of_place (k + 1) lists x r in
      let number : x.0 ≡ k + suc w.1.i = (let e = w.1.number_is in omega arith) in
      (w.0, record { i = suc w.1.i; number_is = number; rows = w.1.rows; list_is = w.1.list_is; there = w.1.there }, Has-append_right rows (joined lists) w.0 w.2)
]

pub place_of_row : (k : ℕ) (lists : List (List StampedRow)) (s : StampedRow) → Has (joined lists) s → (x : ℕ × RowPlace) × Has (all_places k (map places_of lists)) x × Says x.1 s
place_of_row k [] s h = absurd h
place_of_row k (rows ∷ lists) s h = elim (Has-append_cases rows (joined lists) s h) [
  | inl l ↦
      let w = place_there rows s l in
      ((k, w.0), Has-append_left (in_segment k (places_of rows)) (all_places (k + 1) (map places_of lists)) (k, w.0) (Has-map_from (λ (p : RowPlace). (k, p)) (places_of rows) w.0 w.1), w.2)
  | inr r ↦
      let w = place_of_row (k + 1) lists s r in
      (w.0, Has-append_right (in_segment k (places_of rows)) (all_places (k + 1) (map places_of lists)) w.0 w.1, w.2)
]

pub stands_at : (lists : List (List StampedRow)) (n : ℕ) (p : RowPlace) (s : StampedRow) → StandsFrom 0 lists n p s → StandsAt lists n p s
stands_at lists n p s w = record { rows = w.rows; list_is = subst (λ j. slice_get lists j ≡ Some w.rows) (let e = w.number_is in omega arith) w.list_is; there = w.there }

pub says_at : (k : ℕ) (lists : List (List StampedRow)) (n : ℕ) (p : RowPlace) (s : StampedRow) → StandsFrom k lists n p s → Says p s
says_at k lists n p s w = says 0 w.rows (s, p) w.there

-- ---- what the latest candidate says of a component's row

module _ (kind : Kind) (id : ℕ) (as_of : AsOf) (lists : List (List StampedRow)) (are : AreLists lists) where
  abbrev shown : List RowValue
  shown = rows_seen as_of lists

  -- a version that is shown has a candidate
  pub record HasCandidate (c : RowValue) : Type 0 where
    pub x : ℕ × RowPlace
    pub there : Has (all_places 0 (map places_of lists)) x
    pub passes : is_candidate kind id as_of x.1 ≡ true
    pub time_is : x.1.key.time ≡ c.time

  pub candidate_of : (c : RowValue) → Has shown c → IsVersionOf kind id c → c.time ≤ as_of.date → HasCandidate c
  candidate_of c h v early =
      let w = Has-rows_at_cases as_of.pin (listed lists) c h in
      let q = place_of_row 0 lists w.stamped_row (Has-listed_cases lists w.stamped_row w.known) in
      let key_is : q.0.1.key ≡ key_of c = q.2.key_is ∙ ap key_of w.same in
      let kinds : kind_place q.0.1.key.kind ≡ kind_place kind = ap (λ (k : Key). kind_place k.kind) key_is ∙ ap kind_place v.kind_is in
      let ids : q.0.1.key.id ≡ id = ap (λ (k : Key). k.id) key_is ∙ v.id_is in
      let times : q.0.1.key.time ≡ c.time = ap (λ (k : Key). k.time) key_is in
      let numbers = q.2.import_is in
      let w_early = w.early in
      record {
        x = q.0;
        there = q.1;
        passes = candidate_test kind id as_of q.0.1 (both_numbers_from _ _ _ _ kinds ids) (omega arith) (omega arith);
        time_is = times;
      }

  pub get_from_pick : (best : Option (ℕ × RowPlace)) → Picks kind id as_of (all_places 0 (map places_of lists)) best → IsPlaceOf lists (get kind id as_of.date shown) best
  unfolding IsPick
  get_from_pick None none = get_none kind id as_of.date shown (λ c h v early. let k = candidate_of c h v early in none k.x k.there k.passes)
  get_from_pick (Some b) l =
      let w = row_of_place 0 lists b l.there in
      let m = says_at 0 lists b.0 b.1 w.0 w.1 in
      let k = candidate kind id as_of b.1 l.passes in
      let key_is = m.key_is in
      let kinds : kind_of w.0.row ≡ kind = same_kind (kind_of w.0.row) kind (ap (λ (x : Key). kind_place x.kind) (sym key_is) ∙ (both_numbers _ _ _ _ k.of).0) in
      let ids : w.0.row.id ≡ id = ap (λ (x : Key). x.id) (sym key_is) ∙ (both_numbers _ _ _ _ k.of).1 in
      let times : b.1.key.time ≡ w.0.row.time = ap (λ (x : Key). x.time) key_is in
      let numbers = m.import_is in
      let shown_is = k.shown in
      let early = k.early in (
        w.0,
        stands_at lists b.0 b.1 w.0 w.1,
        get_is kind id as_of.date shown w.0.row (IsConsistent-from_ascending shown (IsAscending-rows_at as_of.pin (listed lists) (IsAscending-listed lists)))
            (Has-rows_at_from as_of.pin (listed lists) w.0 (Has-listed_from lists w.0 are w.2) (omega arith))
            (record { kind_is = kinds; id_is = ids })
            (omega arith)
            (λ c h v early. let q = candidate_of c h v early in let le = l.latest q.x q.there q.passes in let e = q.time_is in omega arith),
      )

-- ---- and what one says that is later than a date

-- the component's row that stands there, which is later than `from`; where none does, its row isn't
abbrev pub IsChange : Kind → ℕ → Option ℕ → AsOf → List (List StampedRow) → Option (ℕ × RowPlace) → Type 0
IsChange kind id from as_of lists None = (row : RowValue) → get kind id as_of.date (rows_seen as_of lists) ≡ Some row → is_above from row.time ≡ true → ⊥
IsChange kind id from as_of lists (Some x) = (s : StampedRow) × StandsAt lists x.0 x.1 s × (get kind id as_of.date (rows_seen as_of lists) ≡ Some s.row) × (is_above from s.row.time ≡ true)

pub change_from_pick : (kind : Kind) (id : ℕ) (from : Option ℕ) (as_of : AsOf) (lists : List (List StampedRow)) (are : AreLists lists) (best : Option (ℕ × RowPlace)) → IsPickFrom kind id from as_of (λ (x : ℕ × RowPlace). x.1) (all_places 0 (map places_of lists)) best → IsChange kind id from as_of lists best
unfolding IsPick IsPickFrom
change_from_pick kind id from as_of lists are None none = λ row found late.
    let r = row_at kind id as_of.date (rows_seen as_of lists) row found in
    let c = current_from_snapshot (rows_seen as_of lists) as_of.date row r.current in
    let k = candidate_of kind id as_of lists are row c.known r.version c.early in
    none k.x k.there k.passes (ap (is_above from) k.time_is ∙ late)
change_from_pick kind id from as_of lists are (Some b) p =
    let w = get_from_pick kind id as_of lists are (Some b) p.0 in
    let key_is = (says 0 w.1.rows (w.0, b.1) w.1.there).key_is in
    (w.0, w.1, w.2, ap (λ (k : Key). is_above from k.time) (sym key_is) ∙ p.1)
