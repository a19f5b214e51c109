-- The versions of a component, one after the other.
use Rattle.std.proofs.Common.{◌≡◌, ℕ, ◌+◌, ◌<◌, ◌≤◌, Bool, true, false, List, [], ◌∷◌, ◌++◌, length, map, refl, sym, ap, subst, ◌∙◌, arith, append-nil, append_assoc}
use Rattle.std.specs.Prelude.{◌&&◌, ◌||◌, ◌==◌, not, nat_lt, Option, Some, None}
use Rattle.std.specs.List.{filter, sum_by}
use Rattle.std.proofs.lemmas.List.Sums.{sum_by-cons}
use Rattle.std.specs.Ordering.{nat_cmp}
use Rattle.std.specs.Cmp.{ranked, tied_itself, nat_cmp_total}
use Rattle.std.specs.declared.cmp.Ordering.{Ordering}
use Rattle.std.specs.declared.cmp.Ordering.TheVariants.{Less, Equal, Greater}
use Rattle.std.proofs.lemmas.Bool.Decides.{nat_tests}
use Rattle.std.proofs.lemmas.Bool.{and_parts, and_from}
use Rattle.list_lemmas.proofs.Tests.{both_numbers, both_numbers_from, less_from_below}
use Rattle.rf2_values.specs.declared.row.Kind.{Kind}
use Rattle.rf2_values.specs.declared.key.Key.{Key}
use Rattle.rf2_values.specs.Row.{RowValue, kind_of}
use Rattle.rf2_values.specs.Key.{kind_place, key_of}
use Rattle.history_model.specs.declared.stamped.StampedRow.{StampedRow}
use Rattle.history_model.specs.InOrder.{Has, joined}
use Rattle.history_model.specs.History.{rows_at}
use Rattle.history_model.specs.Lists.{listed, AreLists}
use Rattle.history_model.specs.Queries.{is_version_of, is_above}
use Rattle.history_model.proofs.Keys.{same_kind}
use Rattle.history_model.proofs.Snapshots.{version_from_test, IsHistoryRow, versions_above, versions_first, versions_none, IsAscending-rows_at, IsAscending-listed, Has-listed_cases, Has-listed_from, Has-rows_at_cases, Has-rows_at_from, listed_once, above_again}
use Rattle.history_model.proofs.Items.{Has-joined_at}
use Rattle.history_model.proofs.Filtered.{filter_same}
use Rattle.segment.specs.declared.place.RowPlace.{RowPlace}
use Rattle.as_of_index.specs.declared.search.Start.TheVariants.{Later}
use Rattle.segment.specs.Standing.{places_of, StandsAt}
use Rattle.as_of_index.specs.Places.{place_cmp}
use Rattle.as_of_index.specs.Private.Search.{all_places, is_of, IsFirstFrom, IsNextVersion, is_version_above}
use Rattle.segment.proofs.Posting.{Says}
use Rattle.as_of_index.proofs.Standing.{place_of_row, row_of_place, stands_at}
use Rattle.segment.proofs.Posting.{says, row_there}
use Rattle.as_of_index.proofs.Paging.{less_by_id, less_by_kind, not_above, same_test, above_test, fewer, weaker}

less_by_time : (a b : RowPlace) → kind_place a.key.kind ≡ kind_place b.key.kind → a.key.id ≡ b.key.id → nat_cmp a.key.time b.key.time ≡ Less → place_cmp a b ≡ Less
less_by_time a b k i e =
    let tie : nat_cmp (kind_place a.key.kind) (kind_place b.key.kind) ≡ Equal = subst (λ n. nat_cmp (kind_place a.key.kind) n ≡ Equal) k (tied_itself nat_cmp_total (kind_place a.key.kind)) in
    let same : nat_cmp a.key.id b.key.id ≡ Equal = subst (λ n. nat_cmp a.key.id n ≡ Equal) i (tied_itself nat_cmp_total a.key.id) in
    rw (tie, same, e) refl

later_above : (k kind i id : ℕ) (a : Bool) → (nat_lt k kind || (k == kind && (nat_lt i id || (i == id && not a)))) ≡ false → (k == kind && i == id) ≡ true → a ≡ true
later_above k kind i id true e f = refl
later_above k kind i id false e f = absurd (grind (arith, nat_tests, e, f))

version_not_passed : (k kind i id : ℕ) (a : Bool) → ((k == kind && i == id) && a) ≡ true → (nat_lt k kind || (k == kind && (nat_lt i id || (i == id && not a)))) ≡ false
version_not_passed k kind i id true e = grind (arith, nat_tests, e)
version_not_passed k kind i id false e = absurd (grind (arith, nat_tests, e))

kind_of_version : (k kind i id : ℕ) (a : Bool) → ((k == kind && i == id) && a) ≡ true → k ≡ kind
kind_of_version k kind i id a e = grind (arith, nat_tests, e)

id_of_version : (k kind i id : ℕ) (a : Bool) → ((k == kind && i == id) && a) ≡ true → i ≡ id
id_of_version k kind i id a e = grind (arith, nat_tests, e)

kind_not_below : (k kind i id : ℕ) (a : Bool) → (nat_lt k kind || (k == kind && (nat_lt i id || (i == id && not a)))) ≡ false → kind ≤ k
kind_not_below k kind i id a e = grind (arith, nat_tests, e)

id_beyond : (k kind i id : ℕ) (a : Bool) → (nat_lt k kind || (k == kind && (nat_lt i id || (i == id && not a)))) ≡ false → (k == kind && i == id) ≡ false → k ≡ kind → id < i
id_beyond k kind i id a e f g = grind (arith, nat_tests, e, f, g)

module _ (kind : Kind) (id : ℕ) (after : Option ℕ) (xs : List (ℕ × RowPlace)) where
  pub next_version_is : (x : ℕ × RowPlace) → IsFirstFrom (Later kind id after) (λ (y : ℕ × RowPlace). y.1) xs (Some x) → is_of kind id x.1 ≡ true → IsNextVersion kind id after xs (Some x)
  unfolding IsFirstFrom IsNextVersion
  next_version_is x n o =
      let above = later_above (kind_place x.1.key.kind) (kind_place kind) x.1.key.id id (is_above after x.1.key.time) n.passes o in
      record {
        there = n.there;
        version = and_from (is_of kind id x.1) (is_above after x.1.key.time) o above;
        first = λ y h e.
            let outside = version_not_passed (kind_place y.1.key.kind) (kind_place kind) y.1.key.id id (is_above after y.1.key.time) e in
            let k = kind_of_version (kind_place y.1.key.kind) (kind_place kind) y.1.key.id id (is_above after y.1.key.time) e ∙ sym ((both_numbers (kind_place x.1.key.kind) (kind_place kind) x.1.key.id id o).0) in
            let i = id_of_version (kind_place y.1.key.kind) (kind_place kind) y.1.key.id id (is_above after y.1.key.time) e ∙ sym ((both_numbers (kind_place x.1.key.kind) (kind_place kind) x.1.key.id id o).1) in
            not_above y.1.key.time x.1.key.time (λ less. n.least y h outside (less_by_time y.1 x.1 k i less));
      }

  pub next_version_other : (x : ℕ × RowPlace) → IsFirstFrom (Later kind id after) (λ (y : ℕ × RowPlace). y.1) xs (Some x) → is_of kind id x.1 ≡ false → IsNextVersion kind id after xs None
  unfolding IsFirstFrom IsNextVersion
  next_version_other x n o = λ y h e.
      let outside = version_not_passed (kind_place y.1.key.kind) (kind_place kind) y.1.key.id id (is_above after y.1.key.time) e in
      let k = kind_of_version (kind_place y.1.key.kind) (kind_place kind) y.1.key.id id (is_above after y.1.key.time) e in
      let i = id_of_version (kind_place y.1.key.kind) (kind_place kind) y.1.key.id id (is_above after y.1.key.time) e in
      let le = kind_not_below (kind_place x.1.key.kind) (kind_place kind) x.1.key.id id (is_above after x.1.key.time) n.passes in
      n.least y h outside (by y k i le (nat_cmp (kind_place y.1.key.kind) (kind_place x.1.key.kind)) refl) where
        by : (y : ℕ × RowPlace) → kind_place y.1.key.kind ≡ kind_place kind → y.1.key.id ≡ id → kind_place kind ≤ kind_place x.1.key.kind → (r : Ordering) → nat_cmp (kind_place y.1.key.kind) (kind_place x.1.key.kind) ≡ r → place_cmp y.1 x.1 ≡ Less
        by y k i le Less e = less_by_kind y.1 x.1 e
        by y k i le Equal e =
            let same : kind_place y.1.key.kind ≡ kind_place x.1.key.kind = ranked (kind_place y.1.key.kind) (kind_place x.1.key.kind) Equal (sym e) in
            let lt = id_beyond (kind_place x.1.key.kind) (kind_place kind) x.1.key.id id (is_above after x.1.key.time) n.passes o (sym same ∙ k) in
            less_by_id y.1 x.1 same (less_from_below y.1.key.id x.1.key.id (omega arith))
        by y k i le Greater e = absurd (let gt : kind_place x.1.key.kind < kind_place y.1.key.kind = ranked (kind_place y.1.key.kind) (kind_place x.1.key.kind) Greater (sym e) in omega arith)

  pub next_version_none : IsFirstFrom (Later kind id after) (λ (y : ℕ × RowPlace). y.1) xs None → IsNextVersion kind id after xs None
  unfolding IsFirstFrom IsNextVersion
  next_version_none n = λ y h e.
      let outside = version_not_passed (kind_place y.1.key.kind) (kind_place kind) y.1.key.id id (is_above after y.1.key.time) e in
      let inside = n y h in absurd (cc)

not_within : (a b pin : ℕ) → a ≡ b → a ≤ pin → pin < b → ⊥
not_within a b pin e le lt = absurd (omega arith)

module _ (kind : Kind) (id pin : ℕ) (lists : List (List StampedRow)) (are : AreLists lists) where
  abbrev shown : List RowValue
  shown = rows_at pin (listed lists)

  abbrev places : List (ℕ × RowPlace)
  places = all_places 0 (map places_of lists)

  pub version_row : (after : Option ℕ) (x : ℕ × RowPlace) → IsNextVersion kind id after places (Some x) → (s : StampedRow) × StandsAt lists x.0 x.1 s
  unfolding IsNextVersion
  version_row after x n = let w = row_of_place 0 lists x n.there in (w.0, stands_at lists x.0 x.1 w.0 w.1)

  -- what a place says of the row that stands there
  its_row : (x : ℕ × RowPlace) (s : StampedRow) → StandsAt lists x.0 x.1 s → Has (joined lists) s × Says x.1 s
  its_row x s w = (Has-joined_at lists x.0 w.rows s w.list_is (row_there 0 w.rows (s, x.1) w.there), says 0 w.rows (s, x.1) w.there)

  -- a version that comes is no earlier
  no_earlier : (after : Option ℕ) (x : ℕ × RowPlace) → IsNextVersion kind id after places (Some x) → (c : RowValue) → Has shown c → IsHistoryRow kind id after c → x.1.key.time ≤ c.time
  unfolding IsNextVersion
  no_earlier after x n c h v =
      let w = Has-rows_at_cases pin (listed lists) c h in
      let q = place_of_row 0 lists w.stamped_row (Has-listed_cases lists w.stamped_row w.known) in
      let key_is : q.0.1.key ≡ key_of c = q.2.key_is ∙ ap key_of w.same in
      let kinds : kind_place q.0.1.key.kind ≡ kind_place kind = ap (λ (z : Key). kind_place z.kind) key_is ∙ ap kind_place v.version.kind_is in
      let ids : q.0.1.key.id ≡ id = ap (λ (z : Key). z.id) key_is ∙ v.version.id_is in
      let times : q.0.1.key.time ≡ c.time = ap (λ (z : Key). z.time) key_is in
      let le = n.first q.0 q.1 (and_from (is_of kind id q.0.1) (is_above after q.0.1.key.time) (both_numbers_from _ _ _ _ kinds ids) (ap (is_above after) times ∙ v.above)) in
      omega arith

  no_version : (after : Option ℕ) → IsNextVersion kind id after places None → (c : RowValue) → Has shown c → IsHistoryRow kind id after c → ⊥
  unfolding IsNextVersion
  no_version after n c h v =
      let w = Has-rows_at_cases pin (listed lists) c h in
      let q = place_of_row 0 lists w.stamped_row (Has-listed_cases lists w.stamped_row w.known) in
      let key_is : q.0.1.key ≡ key_of c = q.2.key_is ∙ ap key_of w.same in
      let kinds : kind_place q.0.1.key.kind ≡ kind_place kind = ap (λ (z : Key). kind_place z.kind) key_is ∙ ap kind_place v.version.kind_is in
      let ids : q.0.1.key.id ≡ id = ap (λ (z : Key). z.id) key_is ∙ v.version.id_is in
      let times : q.0.1.key.time ≡ c.time = ap (λ (z : Key). z.time) key_is in
      n q.0 q.1 (and_from (is_of kind id q.0.1) (is_above after q.0.1.key.time) (both_numbers_from _ _ _ _ kinds ids) (ap (is_above after) times ∙ v.above))

  -- the row of the next version
  record IsItsRow (after : Option ℕ) (x : ℕ × RowPlace) (s : StampedRow) : Type 0 where
    known : Has (joined lists) s
    wanted : IsHistoryRow kind id after s.row
    time_is : s.row.time ≡ x.1.key.time
    import_is : x.1.import ≡ s.import

  its_version : (after : Option ℕ) (x : ℕ × RowPlace) (s : StampedRow) → IsNextVersion kind id after places (Some x) → StandsAt lists x.0 x.1 s → IsItsRow after x s
  unfolding IsNextVersion
  its_version after x s n w =
      let r = its_row x s w in
      let e = and_parts (is_of kind id x.1) (is_above after x.1.key.time) n.version in
      let kinds : kind_of s.row ≡ kind = same_kind (kind_of s.row) kind (ap (λ (z : Key). kind_place z.kind) (sym r.1.key_is) ∙ (both_numbers (kind_place x.1.key.kind) (kind_place kind) x.1.key.id id e.0).0) in
      let ids : s.row.id ≡ id = ap (λ (z : Key). z.id) (sym r.1.key_is) ∙ (both_numbers (kind_place x.1.key.kind) (kind_place kind) x.1.key.id id e.0).1 in
      let times : s.row.time ≡ x.1.key.time = ap (λ (z : Key). z.time) (sym r.1.key_is) in
      record { known = r.0; wanted = record { version = record { kind_is = kinds; id_is = ids }; above = ap (is_above after) times ∙ e.1 }; time_is = times; import_is = r.1.import_is }

  pub versions_push : (after : Option ℕ) (x : ℕ × RowPlace) (rows target : List RowValue) (s : StampedRow) → IsNextVersion kind id after places (Some x) → StandsAt lists x.0 x.1 s → x.1.import ≤ pin → rows ++ versions_above kind id after shown ≡ target → (rows ++ s.row ∷ []) ++ versions_above kind id (Some x.1.key.time) shown ≡ target
  versions_push after x rows target s n w le so_far =
      let t = its_version after x s n w in
      let shown_is = t.import_is in
      let times = t.time_is in
      let inside = Has-rows_at_from pin (listed lists) s (Has-listed_from lists s are t.known) (omega arith) in
      append_assoc rows (s.row ∷ []) (versions_above kind id (Some x.1.key.time) shown)
      ∙ ap (λ m. rows ++ s.row ∷ versions_above kind id (Some m) shown) (sym t.time_is)
      ∙ ap (λ ys. rows ++ ys) (sym (versions_first kind id after shown s.row (IsAscending-rows_at pin (listed lists) (IsAscending-listed lists)) inside t.wanted (λ c h v. let early = no_earlier after x n c h v in omega arith)))
      ∙ so_far

  -- what the versions from one on take
  pub versions_cost : (f : RowValue → ℕ) (after : Option ℕ) (x : ℕ × RowPlace) (s : StampedRow) → IsNextVersion kind id after places (Some x) → StandsAt lists x.0 x.1 s → x.1.import ≤ pin → sum_by f (versions_above kind id after shown) ≡ f s.row + sum_by f (versions_above kind id (Some x.1.key.time) shown)
  versions_cost f after x s n w le =
      ap (sum_by f) (sym (versions_push after x [] _ s n w le refl)) ∙ sum_by-cons f s.row (versions_above kind id (Some x.1.key.time) shown)

  its_above : (after : Option ℕ) (x : ℕ × RowPlace) → IsNextVersion kind id after places (Some x) → is_above after x.1.key.time ≡ true
  unfolding IsNextVersion
  its_above after x n = (and_parts (is_of kind id x.1) (is_above after x.1.key.time) n.version).1

  pub versions_skip : (after : Option ℕ) (x : ℕ × RowPlace) (rows target : List RowValue) → IsNextVersion kind id after places (Some x) → pin < x.1.import → rows ++ versions_above kind id after shown ≡ target → rows ++ versions_above kind id (Some x.1.key.time) shown ≡ target
  versions_skip after x rows target n gt so_far =
      let r = version_row after x n in
      let t = its_version after x r.0 n r.1 in
      ap (λ ys. rows ++ ys) (sym (filter_same (λ row. is_version_of kind id row && is_above after row.time) (λ row. is_version_of kind id row && nat_lt x.1.key.time row.time) shown (λ c h.
      same_test (is_version_of kind id c) (is_above after c.time) (nat_lt x.1.key.time c.time)
      (λ e.
      let q = and_parts (is_version_of kind id c) (is_above after c.time) e in
      let v = version_from_test kind id c q.0 in
      above_test x.1.key.time c.time (no_earlier after x n c h (record { version = v; above = q.1 })) (λ same.
      let w = Has-rows_at_cases pin (listed lists) c h in
      let own = t.wanted.version in
      let times = t.time_is in
      let kinds = v.kind_is ∙ sym own.kind_is in
      let ids = v.id_is ∙ sym own.id_is in
      let same_time : c.time ≡ r.0.row.time = omega arith in
      let keys : key_of c ≡ key_of r.0.row = λ i. record { kind = kinds i; id = ids i; time = same_time i } in
      let one = listed_once lists are w.stamped_row r.0 (Has-listed_cases lists w.stamped_row w.known) t.known (ap key_of w.same ∙ keys) in
      not_within w.stamped_row.import x.1.import pin (ap (λ (z : StampedRow). z.import) one ∙ sym t.import_is) w.early gt))
      (λ e. above_again after x.1.key.time c.time (its_above after x n) e)))) ∙ so_far

  pub versions_end : (after : Option ℕ) (rows target : List RowValue) → IsNextVersion kind id after places None → rows ++ versions_above kind id after shown ≡ target → rows ≡ target
  versions_end after rows target n so_far = sym (append-nil rows) ∙ ap (λ ys. rows ++ ys) (sym (versions_none kind id after shown (no_version after n))) ∙ so_far

own_not_later : (o : Bool) (t : ℕ) → (o && nat_lt t t) ≡ false
own_not_later true t = grind (arith, nat_tests)
own_not_later false t = refl

pub fewer_versions : (kind : Kind) (id : ℕ) (after : Option ℕ) (xs : List (ℕ × RowPlace)) (x : ℕ × RowPlace) → IsNextVersion kind id after xs (Some x) → length (filter (λ y. is_version_above kind id (Some x.1.key.time) y.1) xs) < length (filter (λ y. is_version_above kind id after y.1) xs)
unfolding IsNextVersion
fewer_versions kind id after xs x n =
    let above = (and_parts (is_of kind id x.1) (is_above after x.1.key.time) n.version).1 in
    fewer (λ (y : ℕ × RowPlace). is_version_above kind id after y.1) (λ (y : ℕ × RowPlace). is_version_above kind id (Some x.1.key.time) y.1) xs x
    (λ y e. weaker (is_of kind id y.1) (is_above after y.1.key.time) (nat_lt x.1.key.time y.1.key.time) (λ f. above_again after x.1.key.time y.1.key.time above f) e)
    n.there n.version (own_not_later (is_of kind id x.1) x.1.key.time)
