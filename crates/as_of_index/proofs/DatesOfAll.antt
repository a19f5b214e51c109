-- The times that all lists have at a pin are the dates of the rows.
use Rattle.std.proofs.Common.{◌≡◌, ℕ, ◌≤◌, List, [], ◌++◌, map, sym, ap, subst, inl, inr, ◌∙◌, arith}
use Rattle.std.specs.Ordering.{nat_cmp}
use Rattle.std.specs.Cmp.{nat_cmp_total, ranked}
use Rattle.std.specs.declared.cmp.Ordering.TheVariants.{Equal}
use Rattle.rf2_values.specs.declared.key.Key.{Key}
use Rattle.rf2_values.specs.Row.{RowValue}
use Rattle.history_model.specs.declared.stamped.StampedRow.{StampedRow}
use Rattle.history_model.specs.InOrder.{Has}
use Rattle.history_model.specs.History.{rows_at}
use Rattle.history_model.specs.Lists.{listed}
use Rattle.history_model.specs.Queries.{dates}
use Rattle.history_model.proofs.InOrder.{same_ascending, IsAscending-in_order, Has-append_left, Has-append_right, Has-append_cases}
use Rattle.history_model.proofs.Filtered.{Has-map, Has-map_from}
use Rattle.history_model.proofs.Searched.{in_order_has, has_in_order}
use Rattle.history_model.proofs.Snapshots.{Has-listed_cases, Has-listed_from, Has-rows_at_cases, Has-rows_at_from}
use Rattle.segment.specs.declared.place.RowPlace.{RowPlace}
use Rattle.segment.specs.Standing.{places_of}
use Rattle.as_of_index.specs.Places.{ArePlaces}
use Rattle.as_of_index.specs.Private.Once.{IsThere, AreOnce}
use Rattle.as_of_index.specs.Private.Dates.{AddsTimes, AddsDates}
use Rattle.as_of_index.specs.Private.Search.{in_segment, all_places}
use Rattle.as_of_index.proofs.Standing.{are_lists, row_of_place, place_of_row, says_at}

-- the times of these places, each with the number of its list, at a pin
abbrev pub AreTimes : ℕ → List (ℕ × RowPlace) → List ℕ → Type 0
AreTimes pin xs times = AddsTimes (λ (x : ℕ × RowPlace). x.1.key.time) (λ (x : ℕ × RowPlace). x.1.import) pin xs [] times

pub no_times : (pin : ℕ) → AreTimes pin [] []
no_times pin = record { kept = λ t h. h; added = λ x h. absurd h; only = λ t h. absurd h }

-- one list more
pub times_more : (pin n : ℕ) (xs : List (ℕ × RowPlace)) (places : List RowPlace) (old new : List ℕ) → AreTimes pin xs old → AddsDates pin places old new → AreTimes pin (xs ++ in_segment n places) new
times_more pin n xs places old new a d = record {
  kept = λ t h. absurd h;
  added = λ x h le. elim (Has-append_cases xs (in_segment n places) x h) [
    | inl l ↦ d.kept x.1.key.time (a.added x l le)
    | inr r ↦
        let m = Has-map (λ (p : RowPlace). (n, p)) places x r in
        let same = ap (λ (y : ℕ × RowPlace). y.1) m.2 in
        subst (λ (p : RowPlace). Has new p.key.time) same (d.added m.0 m.1 (subst (λ (p : RowPlace). p.import ≤ pin) (sym same) le))
  ];
  only = λ t h. elim (d.only t h) [
    | inl o ↦ elim (a.only t o) [ inl none ↦ absurd none | inr w ↦ inr (w.0, Has-append_left xs (in_segment n places) w.0 w.1, w.2, w.3) ]
    | inr w ↦ inr ((n, w.0), Has-append_right xs (in_segment n places) (n, w.0) (Has-map_from (λ (p : RowPlace). (n, p)) places w.0 w.1), w.2, w.3)
  ];
}

-- a number that ties with one that is there is there
pub number_there : (ns : List ℕ) (n : ℕ) → IsThere nat_cmp ns n → Has ns n
number_there ns n w = subst (λ m. Has ns m) (sym (ranked n w.0 Equal (sym w.2))) w.1

module _ (pin : ℕ) (lists : List (List StampedRow)) (are : ArePlaces (map places_of lists)) (all times : List ℕ) (a : AreTimes pin (all_places 0 (map places_of lists)) all) (once : AreOnce nat_cmp all times) where
  abbrev rows : List RowValue
  rows = rows_at pin (listed lists)

  abbrev wanted : List ℕ
  wanted = map (λ (row : RowValue). row.time) rows

  to_wanted : (t : ℕ) → Has times t → Has wanted t
  to_wanted t h = elim (a.only t (once.only t h)) [
    | inl none ↦ absurd none
    | inr w ↦
        let r = row_of_place 0 lists w.0 w.1 in
        let s = r.0 in
        let own = says_at 0 lists w.0.0 w.0.1 s r.1 in
        let import = own.import_is in
        let le = w.2 in
        let there = Has-rows_at_from pin (listed lists) s (Has-listed_from lists s (are_lists lists are) r.2) (omega arith) in
        let time : s.row.time ≡ t = sym (ap (λ (k : Key). k.time) own.key_is) ∙ w.3 in
        subst (λ n. Has wanted n) time (Has-map_from (λ (row : RowValue). row.time) rows s.row there)
  ]

  from_wanted : (t : ℕ) → Has wanted t → Has times t
  from_wanted t h =
      let m = Has-map (λ (row : RowValue). row.time) rows t h in
      let w = Has-rows_at_cases pin (listed lists) m.0 m.1 in
      let x = place_of_row 0 lists w.stamped_row (Has-listed_cases lists w.stamped_row w.known) in
      let import = x.2.import_is in
      let early = w.early in
      let time : x.0.1.key.time ≡ t = ap (λ (k : Key). k.time) x.2.key_is ∙ ap (λ (row : RowValue). row.time) w.same ∙ m.2 in
      subst (λ n. Has times n) time (number_there times x.0.1.key.time (once.there x.0.1.key.time (a.added x.0 x.1 (omega arith))))

  pub dates_of_all : times ≡ dates rows
  unfolding dates
  dates_of_all = same_ascending nat_cmp_total times _ once.ascending (IsAscending-in_order nat_cmp_total wanted)
      (λ t h. has_in_order wanted t (to_wanted t h))
      (λ t h. from_wanted t (in_order_has wanted t h))
