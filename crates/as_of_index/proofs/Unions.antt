-- What is posted of the rows of two lists, where these stand in one list in key order.
use Rattle.std.proofs.Common.{◌≡◌, ℕ, zero, suc, ◌+◌, ◌≤◌, false, List, [], ◌∷◌, ◌++◌, length, map, refl, sym, ap, subst, inl, inr, ◌∙◌, arith, append_assoc}
use Rattle.std.specs.Prelude.{Some, Option, slice_get, cond}
use Rattle.std.specs.List.{AllByRecursion, count_by}
use Rattle.std.specs.List.Sorted.{IsPermutation}
use Rattle.std.specs.Ordering.{is_lt}
use Rattle.std.specs.declared.cmp.Ordering.TheVariants.{Less, Equal, Greater}
use Rattle.std.proofs.lemmas.List.{map-append}
use Rattle.std.proofs.lemmas.List.Sums.{sum_by-cons}
use Rattle.std.proofs.lemmas.List.Sorted.{IsPermutation-refl, IsPermutation-trans, IsPermutation-append, IsPermutation-append_right, IsPermutation-append_left, IsPermutation-append_comm, IsPermutation-map}
use Rattle.rf2_values.specs.declared.key.Key.{Key}
use Rattle.rf2_values.specs.Key.{key_of, key_cmp}
use Rattle.rf2_values.specs.Row.{RowValue}
use Rattle.history_model.specs.declared.stamped.StampedRow.{StampedRow}
use Rattle.history_model.specs.History.{stamped_cmp}
use Rattle.history_model.specs.Lists.{AreLists, union}
use Rattle.history_model.proofs.InOrder.{above, below_all, not_both}
use Rattle.history_model.proofs.Keys.{stamped_total, same_key}
use Rattle.history_model.proofs.Unions.{AreTwo, union_none, union_left, union_right}
use Rattle.segment.specs.declared.place.RowPlace.{RowPlace}
use Rattle.segment.specs.Standing.{record_len, row_place, with_places, places_of}
use Rattle.as_of_index.specs.Postings.{posted_all}
use Rattle.as_of_index.specs.Numbers.{count_below, number_in_both}

-- ---- the first of two lists' rows

-- below each
abbrev IsBelow : StampedRow → List StampedRow → Type 0
IsBelow x ys = AllByRecursion (λ y. stamped_cmp x y ≡ Less) ys

-- ---- how many rows stand before one

abbrev before : StampedRow → List StampedRow → ℕ
before s rows = count_by (λ t. is_lt (stamped_cmp t s)) rows

before-one : (s t : StampedRow) (rows : List StampedRow) → stamped_cmp t s ≡ Less → before s (t ∷ rows) ≡ 1 + before s rows
before-one s t rows less = sum_by-cons (λ u. cond (is_lt (stamped_cmp u s)) 1 0) t rows ∙ ap (λ r. cond (is_lt r) 1 0 + before s rows) less

not_less : (s t : StampedRow) → stamped_cmp s t ≡ Less → is_lt (stamped_cmp t s) ≡ false
not_less s t less =
    elim (stamped_cmp t s) as (λ r. stamped_cmp t s ≡ r → is_lt r ≡ false) [
      | Less ↦ λ e. absurd (not_both stamped_total s t less e)
      | Equal ↦ λ e. refl
      | Greater ↦ λ e. refl
    ] refl

before-none : (s : StampedRow) (rows : List StampedRow) → IsBelow s rows → before s rows ≡ 0
before-none s [] below = refl
before-none s (t ∷ rows) below =
    let first : before s (t ∷ rows) ≡ 0 + before s rows = sum_by-cons (λ u. cond (is_lt (stamped_cmp u s)) 1 0) t rows ∙ ap (λ b. cond b 1 0 + before s rows) (not_less s t below.0) in
    let others = before-none s rows below.1 in
    omega (arith, first, others)

-- the numbers from i on are those of the rows, where n rows of the other list stand before them and these others are left
abbrev AreNumbers : (ℕ → ℕ) → ℕ → ℕ → List StampedRow → List StampedRow → Type 0
AreNumbers f i n [] ys = Unit {0}
AreNumbers f i n (x ∷ xs) ys = (f i ≡ i + n + before x ys) × AreNumbers f (i + 1) n xs ys

one_less : (f : ℕ → ℕ) (i n : ℕ) (y : StampedRow) (xs ys : List StampedRow) → IsBelow y xs → AreNumbers f i n xs (y ∷ ys) → AreNumbers f i (n + 1) xs ys
one_less f i n y [] ys below are = tt
one_less f i n y (x ∷ xs) ys below are =
    let one = before-one x y ys below.0 in
    let is = are.0 in
    (omega (arith, one, is), one_less f (i + 1) n y xs ys below.1 are.1)

-- ---- the numbers that places tell

count-places : (k : Key) (at : ℕ) (rows : List StampedRow) → count_by (λ (q : RowPlace). is_lt (key_cmp q.key k)) (map (λ (x : StampedRow × RowPlace). x.1) (with_places at rows)) ≡ count_by (λ (t : StampedRow). is_lt (key_cmp (key_of t.row) k)) rows
unfolding row_place
count-places k at [] = refl
count-places k at (t ∷ rows) =
    sum_by-cons (λ (q : RowPlace). cond (is_lt (key_cmp q.key k)) 1 0) (row_place t at) (map (λ (x : StampedRow × RowPlace). x.1) (with_places (at + record_len t) rows))
    ∙ ap (λ n. cond (is_lt (key_cmp (key_of t.row) k)) 1 0 + n) (count-places k (at + record_len t) rows)
    ∙ sym (sum_by-cons (λ (u : StampedRow). cond (is_lt (key_cmp (key_of u.row) k)) 1 0) t rows)

place_with_key : (at : ℕ) (rows : List StampedRow) (k : ℕ) (s : StampedRow) → slice_get rows k ≡ Some s → (p : RowPlace) × (slice_get (map (λ (x : StampedRow × RowPlace). x.1) (with_places at rows)) k ≡ Some p) × (p.key ≡ key_of s.row)
unfolding row_place
place_with_key at [] k s e = absurd cc
place_with_key at (r ∷ rows) zero s e =
    let same : r ≡ s = cc in
    (row_place r at, refl, ap (λ (t : StampedRow). key_of t.row) same)
place_with_key at (r ∷ rows) (suc k) s e = place_with_key (at + record_len r) rows k s e

number_is : (own other : List StampedRow) (k : ℕ) (s : StampedRow) → slice_get own k ≡ Some s → number_in_both (places_of own) (places_of other) k ≡ k + before s other
number_is own other k s e =
    let w = place_with_key 0 own k s e in
    ap (λ (o : Option RowPlace). k + count_below o (places_of other)) w.1
    ∙ ap (λ n. k + n) (count-places w.0.key 0 other)
    ∙ ap (λ (key : Key). k + count_by (λ (t : StampedRow). is_lt (key_cmp (key_of t.row) key)) other) w.2

numbers_from : (f : ℕ → ℕ) (i n : ℕ) (xs ys : List StampedRow) → ((k : ℕ) (s : StampedRow) → slice_get xs k ≡ Some s → f (i + k) ≡ (i + k) + n + before s ys) → AreNumbers f i n xs ys
numbers_from f i n [] ys each = tt
numbers_from f i n (x ∷ xs) ys each =
    let here : i + 0 ≡ i = omega arith in (
      subst (λ m. f m ≡ m + n + before x ys) here (each 0 x refl),
      numbers_from f (i + 1) n xs ys (λ k s e.
          let next : i + suc k ≡ (i + 1) + k = omega arith in
          subst (λ m. f m ≡ m + n + before s ys) next (each (suc k) s e)),
    )

numbers_are : (own other : List StampedRow) → AreNumbers (number_in_both (places_of own) (places_of other)) 0 0 own other
numbers_are own other = numbers_from (number_in_both (places_of own) (places_of other)) 0 0 own other (λ k s e.
    let is = number_is own other k s e in
    let at_k : number_in_both (places_of own) (places_of other) k ≡ k + 0 + before s other = omega (arith, is) in
    let same : k ≡ 0 + k = omega arith in
    subst (λ m. number_in_both (places_of own) (places_of other) m ≡ m + 0 + before s other) same at_k)

-- ---- one row after the other

put_between : {X : Type 0} (a p b r : List X) → IsPermutation r (a ++ b) → IsPermutation (p ++ r) (a ++ (p ++ b))
put_between a p b r same =
    IsPermutation-trans (p ++ r) (p ++ (a ++ b)) (a ++ (p ++ b)) (IsPermutation-append_right p r (a ++ b) same)
    (subst (λ l. IsPermutation l (a ++ (p ++ b))) (append_assoc p a b)
    (subst (λ l. IsPermutation ((p ++ a) ++ b) l) (append_assoc a p b) (IsPermutation-append_left b (p ++ a) (a ++ p) (IsPermutation-append_comm p a))))

module _ {X : Type 0} (posted : RowValue → ℕ → List X) where
  -- what is posted of rows, the first of which has the number i in its list and f i in the other
  abbrev posted_by : (ℕ → ℕ) → ℕ → List StampedRow → List X
  posted_by f i [] = []
  posted_by f i (s ∷ rows) = posted s.row (f i) ++ posted_by f (i + 1) rows

  abbrev ArePosted : (f g : ℕ → ℕ) (i j : ℕ) (xs ys : List StampedRow) → Type 0
  ArePosted f g i j xs ys = IsPermutation (posted_all posted (i + j) (union xs ys)) (posted_by f i xs ++ posted_by g j ys)

  left_step : (f g : ℕ → ℕ) (i j : ℕ) (x : StampedRow) (xs ys : List StampedRow) → AreTwo (x ∷ xs) ys → IsBelow x ys → f i ≡ i + j + before x ys → ArePosted f g (i + 1) j xs ys → ArePosted f g i j (x ∷ xs) ys
  left_step f g i j x xs ys two below is rest =
      let none = before-none x ys below in
      let number : f i ≡ i + j = omega (arith, is, none) in
      let next : (i + 1) + j ≡ (i + j) + 1 = omega arith in
      let others = posted_by f (i + 1) xs ++ posted_by g j ys in
      let now : IsPermutation (posted x.row (i + j) ++ posted_all posted ((i + j) + 1) (union xs ys)) (posted x.row (i + j) ++ others) =
      IsPermutation-append_right (posted x.row (i + j)) (posted_all posted ((i + j) + 1) (union xs ys)) others (subst (λ n. IsPermutation (posted_all posted n (union xs ys)) others) next rest) in
      subst (λ (l : List StampedRow). IsPermutation (posted_all posted (i + j) l) ((posted x.row (f i) ++ posted_by f (i + 1) xs) ++ posted_by g j ys)) (sym (union_left x xs ys two below))
      (subst (λ l. IsPermutation (posted x.row (i + j) ++ posted_all posted ((i + j) + 1) (union xs ys)) l) (sym (append_assoc (posted x.row (f i)) (posted_by f (i + 1) xs) (posted_by g j ys)))
      (subst (λ n. IsPermutation (posted x.row (i + j) ++ posted_all posted ((i + j) + 1) (union xs ys)) (posted x.row n ++ others)) (sym number) now))

  right_step : (f g : ℕ → ℕ) (i j : ℕ) (y : StampedRow) (xs ys : List StampedRow) → AreTwo xs (y ∷ ys) → IsBelow y xs → g j ≡ j + i + before y xs → ArePosted f g i (j + 1) xs ys → ArePosted f g i j xs (y ∷ ys)
  right_step f g i j y xs ys two below is rest =
      let none = before-none y xs below in
      let number : g j ≡ i + j = omega (arith, is, none) in
      let next : i + (j + 1) ≡ (i + j) + 1 = omega arith in
      let now : IsPermutation (posted y.row (i + j) ++ posted_all posted ((i + j) + 1) (union xs ys)) (posted_by f i xs ++ (posted y.row (i + j) ++ posted_by g (j + 1) ys)) =
      put_between (posted_by f i xs) (posted y.row (i + j)) (posted_by g (j + 1) ys) (posted_all posted ((i + j) + 1) (union xs ys))
      (subst (λ n. IsPermutation (posted_all posted n (union xs ys)) (posted_by f i xs ++ posted_by g (j + 1) ys)) next rest) in
      subst (λ (l : List StampedRow). IsPermutation (posted_all posted (i + j) l) (posted_by f i xs ++ (posted y.row (g j) ++ posted_by g (j + 1) ys))) (sym (union_right y xs ys two below))
      (subst (λ n. IsPermutation (posted y.row (i + j) ++ posted_all posted ((i + j) + 1) (union xs ys)) (posted_by f i xs ++ (posted y.row n ++ posted_by g (j + 1) ys))) (sym number) now)

  less_left : (x : StampedRow) (xs ys : List StampedRow) → AreTwo (x ∷ xs) ys → AreTwo xs ys
  less_left x xs ys two = record { xs_ascend = two.xs_ascend.1; ys_ascend = two.ys_ascend; apart = λ s t p q. two.apart s t (inr p) q }

  less_right : (y : StampedRow) (xs ys : List StampedRow) → AreTwo xs (y ∷ ys) → AreTwo xs ys
  less_right y xs ys two = record { xs_ascend = two.xs_ascend; ys_ascend = two.ys_ascend.1; apart = λ s t p q. two.apart s t p (inr q) }

  -- of the rows that are left, where n are left at most
  posted_left : (n : ℕ) (f g : ℕ → ℕ) (i j : ℕ) (xs ys : List StampedRow) → length xs + length ys ≤ n → AreTwo xs ys → AreNumbers f i j xs ys → AreNumbers g j i ys xs → ArePosted f g i j xs ys
  posted_left n f g i j [] [] few two a b = subst (λ (l : List StampedRow). IsPermutation (posted_all posted (i + j) l) []) (sym union_none) (IsPermutation-refl [])
  posted_left zero f g i j (x ∷ xs) ys few two a b = absurd (omega arith)
  posted_left zero f g i j [] (y ∷ ys) few two a b = absurd (omega arith)
  posted_left (suc n) f g i j (x ∷ xs) [] few two a b =
      left_step f g i j x xs [] two tt a.0 (posted_left n f g (i + 1) j xs [] (omega arith) (less_left x xs [] two) a.1 tt)
  posted_left (suc n) f g i j [] (y ∷ ys) few two a b =
      right_step f g i j y [] ys two tt b.0 (posted_left n f g i (j + 1) [] ys (omega arith) (less_right y [] ys two) tt b.1)
  posted_left (suc n) f g i j (x ∷ xs) (y ∷ ys) few two a b =
      elim (stamped_cmp x y) as (λ r. stamped_cmp x y ≡ r → ArePosted f g i j (x ∷ xs) (y ∷ ys)) [
        | Less ↦ λ e. (
            let below : IsBelow x (y ∷ ys) = (e, below_all stamped_total x y ys e two.ys_ascend.0) in
            left_step f g i j x xs (y ∷ ys) two below a.0
            (posted_left n f g (i + 1) j xs (y ∷ ys) (omega arith) (less_left x xs (y ∷ ys) two) a.1 (one_less g j i x (y ∷ ys) xs below b)))
        | Equal ↦ λ e. absurd (two.apart x y (inl refl) (inl refl) (same_key (key_of x.row) (key_of y.row) e))
        | Greater ↦ λ e. (
            let lower = above stamped_total x y e in
            let below : IsBelow y (x ∷ xs) = (lower, below_all stamped_total y x xs lower two.xs_ascend.0) in
            right_step f g i j y (x ∷ xs) ys two below b.0
            (posted_left n f g i (j + 1) (x ∷ xs) ys (omega arith) (less_right y (x ∷ xs) ys two) (one_less f i j y (x ∷ xs) ys below a) b.1))
      ] refl

  module _ (move : (ℕ → ℕ) → X → X) (moves : (f : ℕ → ℕ) (row : RowValue) (i : ℕ) → map (move f) (posted row i) ≡ posted row (f i)) where
    moved : (f : ℕ → ℕ) (i : ℕ) (rows : List StampedRow) → map (move f) (posted_all posted i rows) ≡ posted_by f i rows
    moved f i [] = refl
    moved f i (s ∷ rows) =
        map-append (move f) (posted s.row i) (posted_all posted (i + 1) rows)
        ∙ (λ k. moves f s.row i k ++ moved f (i + 1) rows k)

    -- what is posted of the rows of both lists in key order is what is posted of each list's rows, with the numbers that they have among both
    pub posted_of_both : (a b : List StampedRow) → AreLists (a ∷ b ∷ []) →
        IsPermutation (posted_all posted 0 (union a b)) (map (move (number_in_both (places_of a) (places_of b))) (posted_all posted 0 a) ++ map (move (number_in_both (places_of b) (places_of a))) (posted_all posted 0 b))
    posted_of_both a b are =
        let f = number_in_both (places_of a) (places_of b) in
        let g = number_in_both (places_of b) (places_of a) in
        let two : AreTwo a b = record { xs_ascend = are.ascending.0; ys_ascend = are.ascending.1.0; apart = are.apart.0.0 } in
        let all = posted_left (length a + length b) f g 0 0 a b (omega arith) two (numbers_are a b) (numbers_are b a) in
        subst (λ l. IsPermutation (posted_all posted 0 (union a b)) (l ++ map (move g) (posted_all posted 0 b))) (sym (moved f 0 a))
        (subst (λ l. IsPermutation (posted_all posted 0 (union a b)) (posted_by f 0 a ++ l)) (sym (moved g 0 b)) all)

    -- so it is of lists that have what is posted of each list's rows in any order
    pub merged_postings : (a b : List StampedRow) (xs ys zs : List X) → AreLists (a ∷ b ∷ []) → IsPermutation (posted_all posted 0 a) xs → IsPermutation (posted_all posted 0 b) ys
        → IsPermutation (map (move (number_in_both (places_of a) (places_of b))) xs ++ map (move (number_in_both (places_of b) (places_of a))) ys) zs
        → IsPermutation (posted_all posted 0 (union a b)) zs
    merged_postings a b xs ys zs are of_a of_b all =
        let f = move (number_in_both (places_of a) (places_of b)) in
        let g = move (number_in_both (places_of b) (places_of a)) in
        let own = map f (posted_all posted 0 a) ++ map g (posted_all posted 0 b) in
        IsPermutation-trans (posted_all posted 0 (union a b)) own zs (posted_of_both a b are)
        (IsPermutation-trans own (map f xs ++ map g ys) zs
        (IsPermutation-append (map f (posted_all posted 0 a)) (map f xs) (map g (posted_all posted 0 b)) (map g ys) (IsPermutation-map f (posted_all posted 0 a) xs of_a) (IsPermutation-map g (posted_all posted 0 b) ys of_b))
        all)
