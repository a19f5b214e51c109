-- Rows one after the other in the order of their keys, and the places where they stand.
use Rattle.std.proofs.Common.{◌≡◌, ℕ, suc, ◌+◌, ◌-◌, ◌<◌, ◌≤◌, Bool, true, false, List, [], ◌∷◌, ◌++◌, length, take, map, refl, sym, ap, subst, inl, inr, ◌∙◌, arith, append-nil, append_assoc}
use Rattle.std.specs.Prelude.{◌&&◌, ◌==◌, not, nat_le, nat_lt, Option, Some, None}
use Rattle.std.specs.List.{filter, sum_by}
use Rattle.std.specs.Ordering.{is_lt, nat_cmp, ordering_then}
use Rattle.std.specs.Cmp.{tied_itself, ranked}
use Rattle.std.specs.declared.cmp.Ordering.{Ordering}
use Rattle.std.specs.declared.cmp.Ordering.TheVariants.{Less, Equal, Greater}
use Rattle.std.proofs.lemmas.List.{length_push}
use Rattle.std.proofs.lemmas.List.Sums.{sum_by-cons}
use Rattle.std.proofs.lemmas.Bool.{not-false, and_parts, and_from, false≢true}
use Rattle.std.proofs.lemmas.Bool.Decides.{nat_tests}
use Rattle.std.proofs.lemmas.List.Elements.{filter_agree}
use Rattle.list_lemmas.proofs.Tests.{less_from_test}
use Rattle.list_lemmas.proofs.Kept.{filter_of_both}
use Rattle.rf2_values.specs.declared.key.Key.{Key}
use Rattle.rf2_values.specs.Row.{RowValue}
use Rattle.rf2_values.specs.declared.row.Kind.{Kind}
use Rattle.rf2_values.specs.Key.{key_of, key_cmp, kind_place}
use Rattle.rf2_values.specs.Private.{keys_total}
use Rattle.history_model.specs.declared.stamped.StampedRow.{StampedRow}
use Rattle.history_model.specs.InOrder.{Has, IsAscending, joined}
use Rattle.history_model.specs.History.{row_cmp, stamped_cmp, rows_at}
use Rattle.history_model.specs.Brought.{brought_by}
use Rattle.history_model.specs.Exports.{is_kind_after, all_of_kind, rows_of_kind, rows_added, added}
use Rattle.history_model.specs.Lists.{listed, AreLists}
use Rattle.history_model.specs.KeyOrder.{is_key_after, is_after, rows_after}
use Rattle.history_model.proofs.InOrder.{above, same_ascending, all_from_has}
use Rattle.history_model.proofs.Filtered.{Has-filter, Has-filter_from, IsAscending-filter, filter_none, filter_same}
use Rattle.history_model.proofs.Keys.{rows_total, same_key}
use Rattle.history_model.proofs.Snapshots.{take-nil, IsAscending-rows_at, IsAscending-listed, Has-listed_cases, Has-listed_from, Has-rows_at_cases, Has-rows_at_from, listed_once}
use Rattle.segment.specs.declared.place.RowPlace.{RowPlace}
use Rattle.segment.specs.Standing.{places_of, StandsAt}
use Rattle.as_of_index.specs.declared.search.Start.{Start}
use Rattle.as_of_index.specs.Private.Search.{all_places, is_before, IsFirstFrom}
use Rattle.as_of_index.specs.declared.search.Start.TheVariants as starts
use Rattle.as_of_index.specs.Private.KeyOrder.{is_key_of, is_wanted, is_before_kind, is_from, IsNextWanted, is_of_imports, rows_of_imports, is_row_wanted, in_key_order}
use Rattle.as_of_index.proofs.Standing.{row_of_place, place_of_row, stands_at, says_at}
use Rattle.as_of_index.proofs.Paging.{fewer}

pub is_lt_of : (r : Ordering) → r ≡ Less → is_lt r ≡ true
is_lt_of r e = ap is_lt e

-- what comes after a key that comes after another, comes after that one
pub further : (after : Option Key) (k l : Key) → is_key_after after k ≡ true → is_key_after (Some k) l ≡ true → is_key_after after l ≡ true
further None k l e f = refl
further (Some a) k l e f = is_lt_of (key_cmp a l) (keys_total.trans a k l (less_from_test (key_cmp a k) e) (less_from_test (key_cmp k l) f))

pub not_after_itself : (k : Key) → is_key_after (Some k) k ≡ false
not_after_itself k = ap is_lt (tied_itself keys_total k)

and_false : (b : Bool) → (b && false) ≡ false
and_false true = refl
and_false false = refl

-- a wanted key that is greater than another wanted one was wanted already
pub further_wanted : (kind : Option Kind) (after : Option Key) (k l : Key) → is_wanted kind after k ≡ true → is_wanted kind (Some k) l ≡ true → is_wanted kind after l ≡ true
further_wanted kind after k l e f =
    let own = and_parts (is_key_of kind k) (is_key_after after k) e in
    let other = and_parts (is_key_of kind l) (is_key_after (Some k) l) f in
    and_from (is_key_of kind l) (is_key_after after l) other.0 (further after k l own.1 other.1)

not_wanted_itself : (kind : Option Kind) (k : Key) → is_wanted kind (Some k) k ≡ false
not_wanted_itself kind k = ap (λ t. is_key_of kind k && t) (not_after_itself k) ∙ and_false (is_key_of kind k)

-- ---- where a search starts

places_rise : (a b : Key) → is_key_after (Some a) b ≡ true → kind_place a.kind ≤ kind_place b.kind
places_rise a b e = by (nat_cmp (kind_place a.kind) (kind_place b.kind)) refl (less_from_test (key_cmp a b) e) where
  by : (r : Ordering) → nat_cmp (kind_place a.kind) (kind_place b.kind) ≡ r → key_cmp a b ≡ Less → kind_place a.kind ≤ kind_place b.kind
  by Less e f = let lt = ranked (kind_place a.kind) (kind_place b.kind) Less (sym e) in omega (arith, lt)
  by Equal e f = let same = ranked (kind_place a.kind) (kind_place b.kind) Equal (sym e) in omega (arith, same)
  by Greater e f = absurd (let g : Greater ≡ Less = sym (ap (λ r. ordering_then r (ordering_then (nat_cmp a.id b.id) (nat_cmp a.time b.time))) e) ∙ f in cc)

kinds_rise : (a b : Key) → kind_place a.kind < kind_place b.kind → is_key_after (Some a) b ≡ true
kinds_rise a b lt = ap is_lt (ap (λ r. ordering_then r (ordering_then (nat_cmp a.id b.id) (nat_cmp a.time b.time))) (cmp_less (kind_place a.kind) (kind_place b.kind) lt)) where
  cmp_less : (m n : ℕ) → m < n → nat_cmp m n ≡ Less
  cmp_less m n lt = by (nat_cmp m n) refl where
    by : (r : Ordering) → nat_cmp m n ≡ r → nat_cmp m n ≡ Less
    by Less e = e
    by Equal e = absurd (let same = ranked m n Equal (sym e) in omega (arith, same, lt))
    by Greater e = absurd (let more = ranked m n Greater (sym e) in omega (arith, more, lt))

-- what comes after a key of the kind, or of a later one, is of such a kind
pub from_later : (kind : Kind) (after : Option Key) (k : Key) → is_before_kind after kind ≡ false → not (is_key_after after k) ≡ not (is_from (Some kind) after k)
from_later kind None k e = absurd (cc)
from_later kind (Some a) k e = ap not (elim (is_key_after (Some a) k) as (λ t. is_key_after (Some a) k ≡ t → t ≡ (nat_le (kind_place kind) (kind_place k.kind) && t)) [
  | true ↦ λ f. (let on = places_rise a k f in let yes : nat_le (kind_place kind) (kind_place k.kind) ≡ true = grind (arith, nat_tests, e, on) in rw yes refl)
  | false ↦ λ f. sym (and_false (nat_le (kind_place kind) (kind_place k.kind)))
] refl)

-- after a key of a lesser kind come all rows of the kind
pub from_kind : (kind : Kind) (after : Option Key) (p : RowPlace) → is_before_kind after kind ≡ true → is_before (starts.Components kind None) p ≡ not (is_from (Some kind) after p.key)
from_kind kind after p lesser = elim (nat_le (kind_place kind) (kind_place p.key.kind)) as (λ t. nat_le (kind_place kind) (kind_place p.key.kind) ≡ t → is_before (starts.Components kind None) p ≡ not (t && is_key_after after p.key)) [
  | true ↦ λ e.
      let le : kind_place kind ≤ kind_place p.key.kind = grind (arith, nat_tests, e) in
      let no : nat_lt (kind_place p.key.kind) (kind_place kind) ≡ false = grind (arith, nat_tests, le) in
      rw no (and_false (kind_place p.key.kind == kind_place kind) ∙ ap not (sym (all_after after lesser le)))
  | false ↦ λ e.
      let yes : nat_lt (kind_place p.key.kind) (kind_place kind) ≡ true = grind (arith, nat_tests, e) in
      rw yes refl
] refl where
  all_after : (after : Option Key) → is_before_kind after kind ≡ true → kind_place kind ≤ kind_place p.key.kind → is_key_after after p.key ≡ true
  all_after None lesser le = refl
  all_after (Some a) lesser le = kinds_rise a p.key (let lt : kind_place a.kind < kind_place kind = grind (arith, nat_tests, lesser) in omega (arith, lt, le))

-- ---- the next place

-- a wanted key is from there on
from_wanted : (kind : Option Kind) (after : Option Key) (k : Key) → is_wanted kind after k ≡ true → is_from kind after k ≡ true
from_wanted None after k e = e
from_wanted (Some kind) after k e =
    let parts = and_parts (kind_place k.kind == kind_place kind) (is_key_after after k) e in
    and_from (nat_le (kind_place kind) (kind_place k.kind)) (is_key_after after k) (let own = parts.0 in grind (arith, nat_tests, own)) parts.1

-- and one from there on is wanted, if it is of the kind
wanted_from : (kind : Option Kind) (after : Option Key) (k : Key) → is_key_of kind k ≡ true → is_from kind after k ≡ true → is_wanted kind after k ≡ true
wanted_from None after k e f = f
wanted_from (Some kind) after k e f = and_from (kind_place k.kind == kind_place kind) (is_key_after after k) e (and_parts (nat_le (kind_place kind) (kind_place k.kind)) (is_key_after after k) f).1

module _ (kind : Option Kind) (after : Option Key) (start : Start) (xs : List (ℕ × RowPlace)) (passes : (p : RowPlace) → is_before start p ≡ not (is_from kind after p.key)) where
  not_passed : (p : RowPlace) → is_wanted kind after p.key ≡ true → is_before start p ≡ false
  not_passed p e = passes p ∙ ap not (from_wanted kind after p.key e)

  pub none_is : IsFirstFrom start (λ (x : ℕ × RowPlace). x.1) xs None → IsNextWanted kind after xs None
  unfolding IsFirstFrom IsNextWanted
  none_is n = λ y h e. let q = n y h in absurd (let r = not_passed y.1 e in cc)

  pub next_is : (x : ℕ × RowPlace) → IsFirstFrom start (λ (y : ℕ × RowPlace). y.1) xs (Some x) → is_key_of kind x.1.key ≡ true → IsNextWanted kind after xs (Some x)
  unfolding IsFirstFrom IsNextWanted
  next_is x n own = record {
    there = n.there;
    wanted_so = wanted_from kind after x.1.key own (not-false (is_from kind after x.1.key) (sym (passes x.1) ∙ n.passes));
    first = λ y h e. n.least y h (not_passed y.1 e);
  }

-- one of a later kind is behind all wanted ones
pub later_is : (kind : Option Kind) (after : Option Key) (start : Start) (xs : List (ℕ × RowPlace)) → ((p : RowPlace) → is_before start p ≡ not (is_from kind after p.key)) → (x : ℕ × RowPlace) → IsFirstFrom start (λ (y : ℕ × RowPlace). y.1) xs (Some x) → is_key_of kind x.1.key ≡ false → IsNextWanted kind after xs None
unfolding IsFirstFrom IsNextWanted
later_is None after start xs passes x n other = absurd (cc)
later_is (Some kind) after start xs passes x n other = λ y h e.
    let own = and_parts (kind_place y.1.key.kind == kind_place kind) (is_key_after after y.1.key) e in
    let from = and_parts (nat_le (kind_place kind) (kind_place x.1.key.kind)) (is_key_after after x.1.key) (not-false (is_from (Some kind) after x.1.key) (sym (passes x.1) ∙ n.passes)) in
    let lt : kind_place y.1.key.kind < kind_place x.1.key.kind = (let a = own.0 in let b = from.0 in grind (arith, nat_tests, a, b, other)) in
    n.least y h (not_passed (Some kind) after start xs passes y.1 e) (less_from_test (key_cmp y.1.key x.1.key) (kinds_rise y.1.key x.1.key lt))

pub fewer_after : (kind : Option Kind) (after : Option Key) (xs : List (ℕ × RowPlace)) (x : ℕ × RowPlace) → IsNextWanted kind after xs (Some x) → length (filter (λ y. is_wanted kind (Some x.1.key) y.1.key) xs) < length (filter (λ y. is_wanted kind after y.1.key) xs)
unfolding IsNextWanted
fewer_after kind after xs x n =
    fewer (λ (y : ℕ × RowPlace). is_wanted kind after y.1.key) (λ (y : ℕ × RowPlace). is_wanted kind (Some x.1.key) y.1.key) xs x
    (λ y e. further_wanted kind after x.1.key y.1.key n.wanted_so e) n.there n.wanted_so (not_wanted_itself kind x.1.key)

-- ---- rows in order

module _ (rows : List RowValue) (up : IsAscending row_cmp rows) (kind : Option Kind) (after : Option Key) where
  all_after : (b : RowValue) (xs : List RowValue) → ((x : RowValue) → Has xs x → is_row_wanted kind (Some (key_of b)) x ≡ true) → IsAscending row_cmp xs → IsAscending row_cmp (b ∷ xs)
  all_after b xs each rising = (all_from_has (λ y. row_cmp b y ≡ Less) xs (λ y h. less_from_test (row_cmp b y) (and_parts (is_key_of kind (key_of y)) (is_key_after (Some (key_of b)) (key_of y)) (each y h)).1), rising)

  pub first_after : (b : RowValue) → Has rows b → is_row_wanted kind after b ≡ true → ((z : RowValue) → Has rows z → is_row_wanted kind after z ≡ true → row_cmp z b ≡ Less → ⊥) → ((z : RowValue) → Has rows z → key_of z ≡ key_of b → z ≡ b) → filter (is_row_wanted kind after) rows ≡ b ∷ filter (is_row_wanted kind (Some (key_of b))) rows
  first_after b h e first one =
      same_ascending rows_total (filter (is_row_wanted kind after) rows) (b ∷ filter (is_row_wanted kind (Some (key_of b))) rows)
      (IsAscending-filter (is_row_wanted kind after) row_cmp rows up)
      (all_after b (filter (is_row_wanted kind (Some (key_of b))) rows) (λ x there. (Has-filter (is_row_wanted kind (Some (key_of b))) rows x there).1) (IsAscending-filter (is_row_wanted kind (Some (key_of b))) row_cmp rows up))
      (λ z there. let w = Has-filter (is_row_wanted kind after) rows z there in by z w.0 w.1 (row_cmp z b) refl)
      (λ z there. elim there [
        | inl s ↦ Has-filter_from (is_row_wanted kind after) rows z (subst (λ y. Has rows y) s h) (subst (λ y. is_row_wanted kind after y ≡ true) s e)
        | inr t ↦ (let w = Has-filter (is_row_wanted kind (Some (key_of b))) rows z t in Has-filter_from (is_row_wanted kind after) rows z w.0 (further_wanted kind after (key_of b) (key_of z) e w.1))
      ]) where
        by : (z : RowValue) → Has rows z → is_row_wanted kind after z ≡ true → (r : Ordering) → row_cmp z b ≡ r → Has (b ∷ filter (is_row_wanted kind (Some (key_of b))) rows) z
        by z k f Less c = absurd (first z k f c)
        by z k f Equal c = inl (sym (one z k (same_key (key_of z) (key_of b) c)))
        by z k f Greater c = inr (Has-filter_from (is_row_wanted kind (Some (key_of b))) rows z k (and_from (is_key_of kind (key_of z)) (is_key_after (Some (key_of b)) (key_of z)) (and_parts (is_key_of kind (key_of z)) (is_key_after after (key_of z)) f).0 (is_lt_of (row_cmp b z) (above rows_total z b c))))

-- ---- the rows of some imports, of several lists

module _ (low high : ℕ) (lists : List (List StampedRow)) (are : AreLists lists) (kind : Option Kind) where
  abbrev among : StampedRow → Bool
  among s = is_of_imports low high s.import

  abbrev shown : List RowValue
  shown = rows_of_imports low high (listed lists)

  -- a row that is shown
  record IsShownRow (row : RowValue) : Type 0 where
    s : StampedRow
    known : Has (listed lists) s
    among_so : among s ≡ true
    same : s.row ≡ row

  shown_cases : (row : RowValue) → Has shown row → IsShownRow row
  shown_cases row h =
      let w = Has-rows_at_cases high (filter (λ s. nat_le low s.import) (listed lists)) row h in
      let f = Has-filter (λ s. nat_le low s.import) (listed lists) w.stamped_row w.known in
      let early = w.early in
      record { s = w.stamped_row; known = f.0; among_so = and_from (nat_le low w.stamped_row.import) (nat_le w.stamped_row.import high) f.1 (grind (arith, nat_tests, early)); same = w.same }

  shown_from : (s : StampedRow) → Has (listed lists) s → among s ≡ true → Has shown s.row
  shown_from s h e =
      let parts = and_parts (nat_le low s.import) (nat_le s.import high) e in
      Has-rows_at_from high (filter (λ s. nat_le low s.import) (listed lists)) s (Has-filter_from (λ s. nat_le low s.import) (listed lists) s h parts.0) (let early = parts.1 in grind (arith, nat_tests, early))

  abbrev places : List (ℕ × RowPlace)
  places = all_places 0 (map places_of lists)

  ascends : IsAscending row_cmp shown
  ascends = IsAscending-rows_at high (filter (λ s. nat_le low s.import) (listed lists)) (IsAscending-filter (λ s. nat_le low s.import) stamped_cmp (listed lists) (IsAscending-listed lists))

  -- the row that stands at the next place
  pub row_next : (after : Option Key) (x : ℕ × RowPlace) → IsNextWanted kind after places (Some x) → (s : StampedRow) × StandsAt lists x.0 x.1 s × Has (joined lists) s × (x.1.key ≡ key_of s.row) × (x.1.import ≡ s.import)
  unfolding IsNextWanted
  row_next after x n =
      let w = row_of_place 0 lists x n.there in
      let says = says_at 0 lists x.0 x.1 w.0 w.1 in
      (w.0, stands_at lists x.0 x.1 w.0 w.1, w.2, says.key_is, says.import_is)

  -- no row that is shown stands before the next place, but after the key
  none_before : (after : Option Key) (x : ℕ × RowPlace) → IsNextWanted kind after places (Some x) → (z : RowValue) → Has shown z → is_row_wanted kind after z ≡ true → key_cmp (key_of z) x.1.key ≡ Less → ⊥
  unfolding IsNextWanted
  none_before after x n z h e less =
      let w = shown_cases z h in
      let q = place_of_row 0 lists w.s (Has-listed_cases lists w.s w.known) in
      let key_is : q.0.1.key ≡ key_of z = q.2.key_is ∙ ap key_of w.same in
      n.first q.0 q.1 (ap (is_wanted kind after) key_is ∙ e) (ap (λ k. key_cmp k x.1.key) key_is ∙ less)

  -- rows with one key are one row
  one_row : (s : StampedRow) → Has (joined lists) s → (z : RowValue) → Has shown z → key_of z ≡ key_of s.row → (s.row ≡ z) × (among s ≡ true)
  one_row s there z h e =
      let w = shown_cases z h in
      let same : s ≡ w.s = listed_once lists are s w.s there (Has-listed_cases lists w.s w.known) (sym e ∙ ap key_of (sym w.same)) in
      (ap (λ (t : StampedRow). t.row) same ∙ w.same, ap among same ∙ w.among_so)

  pub next_shown : (after : Option Key) (x : ℕ × RowPlace) (s : StampedRow) → IsNextWanted kind after places (Some x) → Has (joined lists) s → x.1.key ≡ key_of s.row → x.1.import ≡ s.import → is_of_imports low high x.1.import ≡ true → filter (is_row_wanted kind after) shown ≡ s.row ∷ filter (is_row_wanted kind (Some x.1.key)) shown
  unfolding IsNextWanted
  next_shown after x s n there key_is import_is le =
      first_after shown ascends kind after s.row
      (shown_from s (Has-listed_from lists s are there) (ap (is_of_imports low high) (sym import_is) ∙ le))
      (ap (is_wanted kind after) (sym key_is) ∙ n.wanted_so)
      (λ z h e less. none_before after x n z h e (ap (key_cmp (key_of z)) key_is ∙ less))
      (λ z h e. sym (one_row s there z h e).0)
      ∙ ap (λ k. s.row ∷ filter (is_row_wanted kind (Some k)) shown) (sym key_is)

  pub next_hidden : (after : Option Key) (x : ℕ × RowPlace) (s : StampedRow) → IsNextWanted kind after places (Some x) → Has (joined lists) s → x.1.key ≡ key_of s.row → x.1.import ≡ s.import → is_of_imports low high x.1.import ≡ false → filter (is_row_wanted kind after) shown ≡ filter (is_row_wanted kind (Some x.1.key)) shown
  unfolding IsNextWanted
  next_hidden after x s n there key_is import_is later =
      filter_same (is_row_wanted kind after) (is_row_wanted kind (Some x.1.key)) shown (λ z h. elim (is_row_wanted kind after z) as (λ t. is_row_wanted kind after z ≡ t → t ≡ is_row_wanted kind (Some x.1.key) z) [
        | true ↦ λ e. by z h e (key_cmp (key_of z) x.1.key) refl
        | false ↦ λ e. back z e (is_row_wanted kind (Some x.1.key) z) refl
      ] refl) where
        by : (z : RowValue) → Has shown z → is_row_wanted kind after z ≡ true → (r : Ordering) → key_cmp (key_of z) x.1.key ≡ r → true ≡ is_row_wanted kind (Some x.1.key) z
        by z h e Less c = absurd (none_before after x n z h e c)
        by z h e Equal c = absurd (let one = (one_row s there z h (same_key (key_of z) x.1.key c ∙ key_is)).1 in false≢true (sym later ∙ ap (is_of_imports low high) import_is ∙ one))
        by z h e Greater c = sym (and_from (is_key_of kind (key_of z)) (is_key_after (Some x.1.key) (key_of z)) (and_parts (is_key_of kind (key_of z)) (is_key_after after (key_of z)) e).0 (is_lt_of (key_cmp x.1.key (key_of z)) (above keys_total (key_of z) x.1.key c)))

        back : (z : RowValue) → is_row_wanted kind after z ≡ false → (b : Bool) → is_row_wanted kind (Some x.1.key) z ≡ b → false ≡ b
        back z e true f = absurd (let g = further_wanted kind after x.1.key (key_of z) n.wanted_so f in cc)
        back z e false f = refl

  none_next : (after : Option Key) → IsNextWanted kind after places None → filter (is_row_wanted kind after) shown ≡ []
  unfolding IsNextWanted
  none_next after n = filter_none (is_row_wanted kind after) shown (λ z h. elim (is_row_wanted kind after z) as (λ t. is_row_wanted kind after z ≡ t → t ≡ false) [
    | true ↦ λ e. absurd (let w = shown_cases z h in
        let q = place_of_row 0 lists w.s (Has-listed_cases lists w.s w.known) in
        n q.0 q.1 (ap (is_wanted kind after) (q.2.key_is ∙ ap key_of w.same) ∙ e))
    | false ↦ λ e. refl
  ] refl)

  -- ---- the steps of the loop

  pub after_first : (after : Option Key) (x : ℕ × RowPlace) (s : StampedRow) (n : ℕ) → IsNextWanted kind after places (Some x) → Has (joined lists) s → x.1.key ≡ key_of s.row → x.1.import ≡ s.import → is_of_imports low high x.1.import ≡ true → in_key_order kind after (suc n) shown ≡ s.row ∷ in_key_order kind (Some x.1.key) n shown
  unfolding in_key_order
  after_first after x s n next there key_is import_is le = ap (take (suc n)) (next_shown after x s next there key_is import_is le)

  pub after_more : (after : Option Key) (x : ℕ × RowPlace) (s : StampedRow) (limit : ℕ) (rows target : List RowValue) → length rows < limit → IsNextWanted kind after places (Some x) → Has (joined lists) s → x.1.key ≡ key_of s.row → x.1.import ≡ s.import → is_of_imports low high x.1.import ≡ true → rows ++ in_key_order kind after (limit - length rows) shown ≡ target → (rows ++ s.row ∷ []) ++ in_key_order kind (Some x.1.key) (limit - length (rows ++ s.row ∷ [])) shown ≡ target
  after_more after x s limit rows target lt next there key_is import_is le so_far =
      let longer = length_push rows s.row in
      let left : limit - length (rows ++ s.row ∷ []) ≡ limit - (length rows + 1) = ap (λ n. limit - n) longer in
      let one_less : limit - length rows ≡ suc (limit - (length rows + 1)) = omega arith in
      ap (λ n. (rows ++ s.row ∷ []) ++ in_key_order kind (Some x.1.key) n shown) left
      ∙ append_assoc rows (s.row ∷ []) (in_key_order kind (Some x.1.key) (limit - (length rows + 1)) shown)
      ∙ ap (λ ys. rows ++ ys) (sym (after_first after x s (limit - (length rows + 1)) next there key_is import_is le))
      ∙ ap (λ n. rows ++ in_key_order kind after n shown) (sym one_less) ∙ so_far

  -- what rows take of which the next row is the first
  pub after_cost : (f : RowValue → ℕ) (after : Option Key) (x : ℕ × RowPlace) (s : StampedRow) (limit : ℕ) (rows : List RowValue) (c : RowValue) → length rows < limit → IsNextWanted kind after places (Some x) → Has (joined lists) s → x.1.key ≡ key_of s.row → x.1.import ≡ s.import → is_of_imports low high x.1.import ≡ true → sum_by f (in_key_order kind after (limit - length rows) shown) ≡ f s.row + sum_by f (in_key_order kind (Some x.1.key) (limit - length (rows ++ c ∷ [])) shown)
  after_cost f after x s limit rows c lt next there key_is import_is le =
      let longer = length_push rows c in
      let left : limit - (length rows + 1) ≡ limit - length (rows ++ c ∷ []) = ap (λ n. limit - n) (sym longer) in
      let one_less : limit - length rows ≡ suc (limit - (length rows + 1)) = omega arith in
      ap (λ n. sum_by f (in_key_order kind after n shown)) one_less
      ∙ ap (sum_by f) (after_first after x s (limit - (length rows + 1)) next there key_is import_is le)
      ∙ sum_by-cons f s.row (in_key_order kind (Some x.1.key) (limit - (length rows + 1)) shown)
      ∙ ap (λ n. f s.row + sum_by f (in_key_order kind (Some x.1.key) n shown)) left

  pub after_hidden : (after : Option Key) (x : ℕ × RowPlace) (s : StampedRow) (n : ℕ) → IsNextWanted kind after places (Some x) → Has (joined lists) s → x.1.key ≡ key_of s.row → x.1.import ≡ s.import → is_of_imports low high x.1.import ≡ false → in_key_order kind after n shown ≡ in_key_order kind (Some x.1.key) n shown
  unfolding in_key_order
  after_hidden after x s n next there key_is import_is later = ap (take n) (next_hidden after x s next there key_is import_is later)

  pub after_done : (after : Option Key) (n : ℕ) (rows target : List RowValue) → IsNextWanted kind after places None → rows ++ in_key_order kind after n shown ≡ target → rows ≡ target
  unfolding in_key_order
  after_done after n rows target next so_far = sym (append-nil rows) ∙ ap (λ ys. rows ++ ys) (sym (ap (take n) (none_next after next) ∙ take-nil n)) ∙ so_far

  pub after_full : (after : Option Key) (limit : ℕ) (rows target : List RowValue) → limit ≤ length rows → rows ++ in_key_order kind after (limit - length rows) shown ≡ target → rows ≡ target
  unfolding in_key_order
  after_full after limit rows target le so_far =
      let nothing : limit - length rows ≡ 0 = omega arith in
      sym (append-nil rows) ∙ ap (λ n. rows ++ in_key_order kind after n shown) (sym nothing) ∙ so_far

-- ---- the questions that are asked so

same_in_order : (kind other : RowValue → Bool) (limit : ℕ) (rows : List RowValue) → ((row : RowValue) → kind row ≡ other row) → take limit (filter kind rows) ≡ take limit (filter other rows)
same_in_order kind other limit rows same = ap (take limit) (filter_agree kind other same rows)

shown_by_pin : (pin : ℕ) (rows : List StampedRow) → rows_of_imports 0 pin rows ≡ rows_at pin rows
shown_by_pin pin rows = ap (rows_at pin) (all_of rows) where
  all_of : (rows : List StampedRow) → filter (λ s. nat_le 0 s.import) rows ≡ rows
  all_of [] = refl
  all_of (s ∷ rows) = let yes : nat_le 0 s.import ≡ true = grind (arith, nat_tests) in rw yes (ap (λ ys. s ∷ ys) (all_of rows))

brought_by_import : (number : ℕ) (rows : List StampedRow) → rows_of_imports number number rows ≡ rows_added number rows
unfolding rows_at rows_added brought_by
brought_by_import number rows = ap (map (λ (s : StampedRow). s.row))
    (sym (filter_of_both (λ (s : StampedRow). nat_le number s.import) (λ (s : StampedRow). nat_le s.import number) (λ (s : StampedRow). s.import == number) rows (λ s. one s.import))) where
      one : (n : ℕ) → (n == number) ≡ (nat_le number n && nat_le n number)
      one n = elim (n == number) as (λ t. (n == number) ≡ t → t ≡ (nat_le number n && nat_le n number)) [
        | true ↦ λ e.
            let low : nat_le number n ≡ true = grind (arith, nat_tests, e) in
            let high : nat_le n number ≡ true = grind (arith, nat_tests, e) in
            rw (low, high) refl
        | false ↦ λ e. elim (nat_le number n) as (λ t. nat_le number n ≡ t → false ≡ (t && nat_le n number)) [
          | true ↦ λ f. (let no : nat_le n number ≡ false = grind (arith, nat_tests, e, f) in sym no)
          | false ↦ λ f. refl
        ] refl
      ] refl

of_kind_is : (kind : Kind) (after : Option Key) (limit : ℕ) (rows : List RowValue) → in_key_order (Some kind) after limit rows ≡ rows_of_kind kind after limit rows
unfolding in_key_order rows_of_kind all_of_kind
of_kind_is kind after limit rows = same_in_order (is_row_wanted (Some kind) after) (is_kind_after kind after) limit rows (λ row. refl)

pub order_is_after : (after : Option Key) (limit pin : ℕ) (rows : List StampedRow) → in_key_order None after limit (rows_of_imports 0 pin rows) ≡ rows_after after limit (rows_at pin rows)
unfolding in_key_order rows_after
order_is_after after limit pin rows = ap (λ (shown : List RowValue). take limit (filter (is_row_wanted None after) shown)) (shown_by_pin pin rows) ∙ same_in_order (is_row_wanted None after) (is_after after) limit (rows_at pin rows) (λ row. refl)

pub order_is_of_kind : (kind : Kind) (after : Option Key) (limit pin : ℕ) (rows : List StampedRow) → in_key_order (Some kind) after limit (rows_of_imports 0 pin rows) ≡ rows_of_kind kind after limit (rows_at pin rows)
order_is_of_kind kind after limit pin rows = ap (in_key_order (Some kind) after limit) (shown_by_pin pin rows) ∙ of_kind_is kind after limit (rows_at pin rows)

pub order_is_added : (number : ℕ) (kind : Kind) (after : Option Key) (limit : ℕ) (rows : List StampedRow) → in_key_order (Some kind) after limit (rows_of_imports number number rows) ≡ added number kind after limit rows
order_is_added number kind after limit rows = ap (in_key_order (Some kind) after limit) (brought_by_import number rows) ∙ of_kind_is kind after limit (rows_added number rows)
