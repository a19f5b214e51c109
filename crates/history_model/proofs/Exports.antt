-- All rows of the kinds, and what imports added.
use Rattle.std.proofs.Common.{◌≡◌, ℕ, zero, suc, ◌+◌, ◌≤◌, ◌<◌, true, false, cond, List, [], ◌∷◌, ◌++◌, map, refl, sym, ap, subst, inl, inr, ◌∙◌, arith, append-nil, append_assoc, add-one}
use Rattle.std.specs.Prelude.{◌==◌, ◌&&◌, nat_le, flat_map, Option, Some, None}
use Rattle.std.specs.List.{filter, range_with_len, AllByRecursion}
use Rattle.std.specs.List.Sorted.{IsPermutation}
use Rattle.std.specs.Ordering.{is_lt, nat_cmp, ordering_then}
use Rattle.std.specs.Cmp.{ranked, tied_itself}
use Rattle.std.specs.declared.cmp.Ordering.{Ordering}
use Rattle.std.specs.declared.cmp.Ordering.TheVariants.{Less, Equal, Greater}
use Rattle.std.proofs.lemmas.Bool.{and_parts, and_from}
use Rattle.std.proofs.lemmas.Bool.Decides.{nat_tests}
use Rattle.std.proofs.lemmas.List.{length-map}
use Rattle.std.proofs.lemmas.List.Sorted.{IsPermutation-trans, IsPermutation-append_comm, IsPermutation-append_left, IsPermutation-append_right, IsPermutation-refl}
use Rattle.list_lemmas.proofs.Tests.{less_from_test}
use Rattle.rf2_values.specs.declared.row.Kind.{Kind}
use Rattle.rf2_values.specs.declared.row.Kind.TheVariants as kinds
use Rattle.rf2_values.specs.declared.key.Key.{Key}
use Rattle.rf2_values.specs.Row.{RowValue, kind_of}
use Rattle.rf2_values.specs.Key.{key_of, key_cmp, kind_place}
use Rattle.rf2_values.specs.Private.{keys_total}
use Rattle.history_model.specs.declared.stamped.StampedRow.{StampedRow}
use Rattle.history_model.specs.InOrder.{Has, IsAscending}
use Rattle.history_model.specs.History.{History, IsHistory, row_cmp, rows_at, stamped_cmp}
use Rattle.history_model.specs.Brought.{brought_by}
use Rattle.history_model.specs.KeyOrder.{is_key_after, is_after}
use Rattle.history_model.specs.Queries.{is_kind}
use Rattle.history_model.specs.Exports.{is_kind_after, all_of_kind, rows_of_kind, rows_added, all_kinds, KindsAreAll, AddedAscend, AddedAreShown, ReceiptCountsTheAdded, AddedStay}
use Rattle.history_model.proofs.InOrder.{Has-all, same_ascending}
use Rattle.history_model.proofs.Keys.{rows_total}
use Rattle.history_model.proofs.Filtered.{Has-filter, Has-filter_from, IsAscending-filter, IsAscending-take, filter_none}
use Rattle.history_model.proofs.Brought.{brought_stays}
use Rattle.history_model.proofs.Chains.{numbered}

-- ---- pages

-- what comes after a key that comes after another, comes after that one
key_again : (after : Option Key) (k l : Key) → is_key_after after k ≡ true → is_key_after (Some k) l ≡ true → is_key_after after l ≡ true
key_again None k l e f = refl
key_again (Some a) k l e f = ap is_lt (keys_total.trans a k l (less_from_test (key_cmp a k) e) (less_from_test (key_cmp k l) f))

module _ (kind : Kind) (rows : List RowValue) (up : IsAscending row_cmp rows) where
  pub kind_first : (after : Option Key) (b : RowValue) (ys : List RowValue) → all_of_kind kind after rows ≡ b ∷ ys → all_of_kind kind after rows ≡ b ∷ all_of_kind kind (Some (key_of b)) rows
  unfolding all_of_kind
  kind_first after b ys e =
      let rising : IsAscending row_cmp (b ∷ ys) = subst (λ xs. IsAscending row_cmp xs) e (IsAscending-filter (is_kind_after kind after) row_cmp rows up) in
      let own = and_parts (is_kind kind b) (is_after after b) (Has-filter (is_kind_after kind after) rows b (subst (λ xs. Has xs b) (sym e) (inl refl))).1 in
      e ∙ ap (λ xs. b ∷ xs)
      (same_ascending rows_total ys (filter (is_kind_after kind (Some (key_of b))) rows) rising.1 (IsAscending-filter (is_kind_after kind (Some (key_of b))) row_cmp rows up)
      (λ z h.
      let f = Has-filter (is_kind_after kind after) rows z (subst (λ xs. Has xs z) (sym e) (inr h)) in
      let less : row_cmp b z ≡ Less = Has-all (λ y. row_cmp b y ≡ Less) ys z rising.0 h in
      Has-filter_from (is_kind_after kind (Some (key_of b))) rows z f.0 (and_from (is_kind kind z) (is_after (Some (key_of b)) z) (and_parts (is_kind kind z) (is_after after z) f.1).0 (ap is_lt less)))
      (λ z h.
      let f = Has-filter (is_kind_after kind (Some (key_of b))) rows z h in
      let parts = and_parts (is_kind kind z) (is_after (Some (key_of b)) z) f.1 in
      let there = Has-filter_from (is_kind_after kind after) rows z f.0 (and_from (is_kind kind z) (is_after after z) parts.0 (key_again after (key_of b) (key_of z) own.1 parts.1)) in
      elim (subst (λ xs. Has xs z) e there) [
        | inl s ↦ absurd (let less = less_from_test (row_cmp b z) parts.1 in let tie : row_cmp b z ≡ Equal = subst (λ y. row_cmp b y ≡ Equal) s (itself b) in cc)
        | inr t ↦ t
      ])) where
        itself : (x : RowValue) → row_cmp x x ≡ Equal
        itself x = tied_itself rows_total x

pub rows_of_kind_ascend : (kind : Kind) (after : Option Key) (limit : ℕ) (rows : List RowValue) → IsAscending row_cmp rows → IsAscending row_cmp (rows_of_kind kind after limit rows)
unfolding rows_of_kind all_of_kind
rows_of_kind_ascend kind after limit rows up = IsAscending-take row_cmp limit (filter (is_kind_after kind after) rows) (IsAscending-filter (is_kind_after kind after) row_cmp rows up)

-- ---- all kinds

-- rows of which none is of a lesser kind: first those of the kind, and then the others
abbrev from_kind : ℕ → List RowValue → List RowValue
from_kind n rows = filter (λ row. nat_le n (kind_place (kind_of row))) rows

abbrev of_place : ℕ → List RowValue → List RowValue
of_place n rows = filter (λ row. kind_place (kind_of row) == n) rows

none_before : (n : ℕ) (x : RowValue) (xs : List RowValue) → IsAscending row_cmp (x ∷ xs) → (n + 1) ≤ kind_place (kind_of x) → of_place n xs ≡ []
none_before n x [] up le = refl
none_before n x (y ∷ ys) up le =
    let on = places_rise (key_of x) (key_of y) up.0.0 in
    let no : (kind_place (kind_of y) == n) ≡ false = grind (arith, nat_tests, le, on) in
    rw no (none_before n x ys (up.0.1, up.1.1) le) where
      places_rise : (a b : Key) → key_cmp a b ≡ Less → kind_place a.kind ≤ kind_place b.kind
      places_rise a b less = by (nat_cmp (kind_place a.kind) (kind_place b.kind)) refl less where
        by : (r : Ordering) → nat_cmp (kind_place a.kind) (kind_place b.kind) ≡ r → key_cmp a b ≡ Less → kind_place a.kind ≤ kind_place b.kind
        by Less e f = let lt = ranked (kind_place a.kind) (kind_place b.kind) Less (sym e) in omega (arith, lt)
        by Equal e f = let same = ranked (kind_place a.kind) (kind_place b.kind) Equal (sym e) in omega (arith, same)
        by Greater e f = absurd (let g : Greater ≡ Less = sym (ap (λ r. ordering_then r (ordering_then (nat_cmp a.id b.id) (nat_cmp a.time b.time))) e) ∙ f in cc)

kind_by_kind : (n : ℕ) (rows : List RowValue) → IsAscending row_cmp rows → of_place n rows ++ from_kind (n + 1) rows ≡ from_kind n rows
kind_by_kind n [] up = refl
kind_by_kind n (x ∷ xs) up =
    elim (nat_le (n + 1) (kind_place (kind_of x))) as (λ t. nat_le (n + 1) (kind_place (kind_of x)) ≡ t → of_place n (x ∷ xs) ++ cond t (x ∷ from_kind (n + 1) xs) (from_kind (n + 1) xs) ≡ from_kind n (x ∷ xs)) [
      | true ↦ λ e.
          let le : (n + 1) ≤ kind_place (kind_of x) = grind (arith, nat_tests, e) in
          let no : (kind_place (kind_of x) == n) ≡ false = grind (arith, nat_tests, le) in
          let yes : nat_le n (kind_place (kind_of x)) ≡ true = grind (arith, nat_tests, le) in
          let none = none_before n x xs up le in
          let rest = kind_by_kind n xs up.1 in
          rw (no, yes, none) (ap (λ ys. x ∷ ys) (ap (λ ys. ys ++ from_kind (n + 1) xs) (sym none) ∙ rest))
      | false ↦ λ e.
          let rest = kind_by_kind n xs up.1 in
          elim (kind_place (kind_of x) == n) as (λ t. (kind_place (kind_of x) == n) ≡ t → cond t (x ∷ of_place n xs) (of_place n xs) ++ from_kind (n + 1) xs ≡ from_kind n (x ∷ xs)) [
            | true ↦ λ f. let yes : nat_le n (kind_place (kind_of x)) ≡ true = grind (arith, nat_tests, f) in rw yes (ap (λ ys. x ∷ ys) rest)
            | false ↦ λ f. let no : nat_le n (kind_place (kind_of x)) ≡ false = grind (arith, nat_tests, e, f) in rw no rest
          ] refl
    ] refl

few_kinds : (kind : Kind) → kind_place kind < 6
few_kinds kinds.Concept = omega arith
few_kinds kinds.Description = omega arith
few_kinds kinds.Relationship = omega arith
few_kinds kinds.Association = omega arith
few_kinds kinds.Concrete = omega arith
few_kinds kinds.Member = omega arith

none_after : (rows : List RowValue) → from_kind 6 rows ≡ []
none_after [] = refl
none_after (x ∷ xs) = let few = few_kinds (kind_of x) in let no : nat_le 6 (kind_place (kind_of x)) ≡ false = grind (arith, nat_tests, few) in rw no (none_after xs)

all_from : (rows : List RowValue) → from_kind 0 rows ≡ rows
all_from [] = refl
all_from (x ∷ xs) = let yes : nat_le 0 (kind_place (kind_of x)) ≡ true = grind (arith, nat_tests) in rw yes (ap (λ ys. x ∷ ys) (all_from xs))

of_kind_is : (kind : Kind) (rows : List RowValue) → all_of_kind kind None rows ≡ of_place (kind_place kind) rows
unfolding all_of_kind
of_kind_is kind [] = refl
of_kind_is kind (x ∷ xs) =
    elim (kind_place (kind_of x) == kind_place kind) as (λ t. cond (t && true) (x ∷ filter (is_kind_after kind None) xs) (filter (is_kind_after kind None) xs) ≡ cond t (x ∷ of_place (kind_place kind) xs) (of_place (kind_place kind) xs)) [
      | true ↦ ap (λ ys. x ∷ ys) (of_kind_is kind xs)
      | false ↦ of_kind_is kind xs
    ]

pub kinds_are_all : KindsAreAll
kinds_are_all rows up =
    let step = λ (n : ℕ). kind_by_kind n rows up in
    let of = λ (kind : Kind). of_kind_is kind rows in
    rw (of kinds.Concept, of kinds.Description, of kinds.Relationship, of kinds.Association, of kinds.Concrete, of kinds.Member)
    (ap (λ ys. of_place 0 rows ++ (of_place 1 rows ++ (of_place 2 rows ++ (of_place 3 rows ++ (of_place 4 rows ++ (of_place 5 rows ++ ys)))))) (sym (none_after rows))
    ∙ ap (λ ys. of_place 0 rows ++ (of_place 1 rows ++ (of_place 2 rows ++ (of_place 3 rows ++ (of_place 4 rows ++ ys))))) (step 5)
    ∙ ap (λ ys. of_place 0 rows ++ (of_place 1 rows ++ (of_place 2 rows ++ (of_place 3 rows ++ ys)))) (step 4)
    ∙ ap (λ ys. of_place 0 rows ++ (of_place 1 rows ++ (of_place 2 rows ++ ys))) (step 3)
    ∙ ap (λ ys. of_place 0 rows ++ (of_place 1 rows ++ ys)) (step 2)
    ∙ ap (λ ys. of_place 0 rows ++ ys) (step 1)
    ∙ step 0 ∙ all_from rows)

-- ---- what imports added

rows_ascend : (rows : List StampedRow) → IsAscending stamped_cmp rows → IsAscending row_cmp (map (λ (s : StampedRow). s.row) rows)
rows_ascend [] up = tt
rows_ascend (s ∷ rows) up = (each s rows up.0, rows_ascend rows up.1) where
  each : (s : StampedRow) (rows : List StampedRow) → AllByRecursion (λ t. stamped_cmp s t ≡ Less) rows → AllByRecursion (λ row. row_cmp s.row row ≡ Less) (map (λ (t : StampedRow). t.row) rows)
  each s [] all = tt
  each s (t ∷ rows) all = (all.0, each s rows all.1)

pub added_ascend : AddedAscend
unfolding rows_added brought_by
added_ascend h number is = rows_ascend (filter (λ s. s.import == number) h.rows) (IsAscending-filter (λ s. s.import == number) stamped_cmp h.rows is.ascending)

pub receipt_counts_the_added : ReceiptCountsTheAdded
unfolding rows_added
receipt_counts_the_added h number new latest receipt = receipt.new_is ∙ sym (length-map (brought_by number h.rows) (λ s. s.row))

pub added_stay : AddedStay
unfolding rows_added
added_stay h release number is le = ap (λ (rows : List StampedRow). map (λ s. s.row) rows) (brought_stays h release number is le)

-- one item before or in between
first_of_both : {X : Type 0} (x : X) (xs ys zs : List X) → IsPermutation (xs ++ ys) zs → IsPermutation (xs ++ x ∷ ys) (x ∷ zs)
first_of_both x xs ys zs same =
    IsPermutation-trans (xs ++ x ∷ ys) (x ∷ (xs ++ ys)) (x ∷ zs)
    (subst (λ us. IsPermutation us (x ∷ (xs ++ ys))) (append_assoc xs (x ∷ []) ys) (IsPermutation-append_left ys (xs ++ x ∷ []) (x ∷ xs) (IsPermutation-append_comm xs (x ∷ []))))
    (IsPermutation-append_right (x ∷ []) (xs ++ ys) zs same)

up_to_next : (k : ℕ) (rows : List StampedRow) → IsPermutation (map (λ (s : StampedRow). s.row) (filter (λ s. nat_le s.import k) rows) ++ map (λ (s : StampedRow). s.row) (filter (λ s. s.import == k + 1) rows)) (map (λ (s : StampedRow). s.row) (filter (λ s. nat_le s.import (k + 1)) rows))
up_to_next k [] = IsPermutation-refl []
up_to_next k (s ∷ rows) =
    let earlier = map (λ (s : StampedRow). s.row) (filter (λ s. nat_le s.import k) rows) in
    let own = map (λ (s : StampedRow). s.row) (filter (λ s. s.import == k + 1) rows) in
    let all = map (λ (s : StampedRow). s.row) (filter (λ s. nat_le s.import (k + 1)) rows) in
    let rest : IsPermutation (earlier ++ own) all = up_to_next k rows in
    elim (nat_le s.import k) as (λ t. nat_le s.import k ≡ t → IsPermutation (map (λ (s : StampedRow). s.row) (cond t (s ∷ filter (λ s. nat_le s.import k) rows) (filter (λ s. nat_le s.import k) rows)) ++ map (λ (s : StampedRow). s.row) (filter (λ s. s.import == k + 1) (s ∷ rows))) (map (λ (s : StampedRow). s.row) (filter (λ s. nat_le s.import (k + 1)) (s ∷ rows)))) [
      | true ↦ λ e.
          let up : nat_le s.import (k + 1) ≡ true = grind (arith, nat_tests, e) in
          let no : (s.import == k + 1) ≡ false = grind (arith, nat_tests, e) in
          rw (up, no) (IsPermutation-append_right (s.row ∷ []) (earlier ++ own) all rest)
      | false ↦ λ e. elim (s.import == k + 1) as (λ t. (s.import == k + 1) ≡ t → IsPermutation (earlier ++ map (λ (s : StampedRow). s.row) (cond t (s ∷ filter (λ s. s.import == k + 1) rows) (filter (λ s. s.import == k + 1) rows))) (map (λ (s : StampedRow). s.row) (filter (λ s. nat_le s.import (k + 1)) (s ∷ rows)))) [
        | true ↦ λ f. let up : nat_le s.import (k + 1) ≡ true = grind (arith, nat_tests, f) in rw up (first_of_both s.row earlier own all rest)
        | false ↦ λ f. let no : nat_le s.import (k + 1) ≡ false = grind (arith, nat_tests, e, f) in rw no rest
      ] refl
    ] refl

next_added : (k : ℕ) (rows : List StampedRow) → IsPermutation (rows_at k rows ++ rows_added (k + 1) rows) (rows_at (k + 1) rows)
unfolding rows_at rows_added brought_by
next_added k rows = up_to_next k rows

none_shown : (h : History) → IsHistory h → rows_at 0 h.rows ≡ []
unfolding rows_at
none_shown h is = ap (λ (rows : List StampedRow). map (λ s. s.row) rows) (filter_none (λ s. nat_le s.import 0) h.rows (λ s there. let low = (numbered h s is there).0 in grind (arith, nat_tests, low)))

-- numbers up to the next one are those up to this one, and the next one
with_next : (f : ℕ → List RowValue) (from count next : ℕ) → from + count ≡ next → flat_map f (range_with_len from (suc count)) ≡ flat_map f (range_with_len from count) ++ f next
with_next f from zero next e = let same : from ≡ next = omega (arith, e) in append-nil (f from) ∙ ap f same
with_next f from (suc n) next e = ap (λ ys. f from ++ ys) (with_next f (from + 1) n next (omega (arith, e))) ∙ sym (append_assoc (f from) (flat_map f (range_with_len (from + 1) n)) (f next))

pub added_are_shown : AddedAreShown
added_are_shown h zero is = subst (λ rows. IsPermutation [] rows) (sym (none_shown h is)) (IsPermutation-refl [])
added_are_shown h (suc k) is =
    let before = added_are_shown h k is in
    let f = λ (number : ℕ). rows_added number h.rows in
    let first = flat_map f (range_with_len 1 k) in
    let whole : flat_map f (range_with_len 1 (suc k)) ≡ first ++ f (k + 1) = with_next f 1 k (k + 1) (omega arith) in
    subst (λ (n : ℕ). IsPermutation (flat_map f (range_with_len 1 (suc k))) (rows_at n h.rows)) (add-one k)
    (subst (λ ys. IsPermutation ys (rows_at (k + 1) h.rows)) (sym whole)
    (IsPermutation-trans (first ++ f (k + 1)) (rows_at k h.rows ++ f (k + 1)) (rows_at (k + 1) h.rows)
    (IsPermutation-append_left (f (k + 1)) first (rows_at k h.rows) before) (next_added k h.rows)))
