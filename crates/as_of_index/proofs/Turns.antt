-- One posting more of two lists that are merged in turns.
use Rattle.std.proofs.Common.{◌≡◌, ℕ, zero, suc, ◌+◌, ◌-◌, ◌<◌, ◌≤◌, List, [], ◌∷◌, ◌++◌, length, get_or, take, drop, map, refl, sym, ap, subst, inl, inr, ◌∙◌, arith, add-one}
use Rattle.std.proofs.lemmas.List.{take_all}
use Rattle.std.specs.Prelude.{Some, slice_get}
use Rattle.std.specs.List.Sorted.{IsNonDecreasingBy, IsPermutation}
use Rattle.std.proofs.lemmas.List.{map-append}
use Rattle.std.proofs.lemmas.List.Sorted.{IsPermutation-refl, IsPermutation-trans, IsPermutation-append_comm, IsNonDecreasingBy-push}
use Rattle.std.proofs.lemmas.Option.{slice_get_within}
use Rattle.list_lemmas.proofs.Parts.{permuted_with_last}
use Rattle.history_model.specs.InOrder.{Has}
use Rattle.history_model.proofs.InOrder.{Has-append_cases}
use Rattle.history_model.proofs.Items.{Has-get_or, place_of_item}
use Rattle.as_of_index.specs.declared.merging.TakenCount.{TakenCount}
use Rattle.as_of_index.specs.Numbers.{TwoLists, number_in_both}
use Rattle.as_of_index.specs.Merging.{PostingKind, moved, first_moved, second_moved, NoneAbove, IsMerged, count_left}
use Rattle.as_of_index.specs.Private.Merging.{ComesNext}

-- ---- what is there with a number

pub take_one : {X : Type 0} (xs : List X) (i : ℕ) (x : X) → slice_get xs i ≡ Some x → take (suc i) xs ≡ take i xs ++ x ∷ []
take_one [] i x e = absurd cc
take_one (y ∷ xs) zero x e = let same : y ≡ x = cc in ap (λ z. z ∷ []) same
take_one (y ∷ xs) (suc i) x e = ap (λ l. y ∷ l) (take_one xs i x e)

pub has_there : {X : Type 0} (xs : List X) (i : ℕ) (x : X) → slice_get xs i ≡ Some x → Has (drop i xs) x
has_there [] i x e = absurd cc
has_there (y ∷ xs) zero x e = let same : y ≡ x = cc in inl same
has_there (y ∷ xs) (suc i) x e = has_there xs i x e

pub has_more : {X : Type 0} (xs : List X) (i : ℕ) (x : X) → Has (drop (suc i) xs) x → Has (drop i xs) x
has_more [] zero x h = h
has_more [] (suc i) x h = h
has_more (y ∷ xs) zero x h = inr h
has_more (y ∷ xs) (suc i) x h = has_more xs i x h

-- ---- what is left of a list in order

module _ {X : Type 0} (rank : X → ℕ) where
  first_below : (x : X) (xs : List X) → IsNonDecreasingBy rank (x ∷ xs) → (y : X) → Has xs y → rank x ≤ rank y
  first_below x xs up y h =
      let w = place_of_item xs y h in
      let lt = w.1 in
      subst (λ z. rank x ≤ rank z) (w.2 x) (up 0 (suc w.0) x (omega arith) (omega (arith, lt)))

  left_above : (xs : List X) (i r : ℕ) → IsNonDecreasingBy rank xs → ((y : X) → slice_get xs i ≡ Some y → r ≤ rank y) → (y : X) → Has (drop i xs) y → r ≤ rank y
  left_above [] zero r up least y h = absurd h
  left_above [] (suc i) r up least y h = absurd h
  left_above (x ∷ xs) zero r up least y h =
      let first = least x refl in
      elim h [
        | inl e ↦ subst (λ z. r ≤ rank z) e first
        | inr t ↦ (let more = first_below x xs up y t in omega (arith, first, more))
      ]
  left_above (x ∷ xs) (suc i) r up least y h = left_above xs i r (λ k l d le lt. up (suc k) (suc l) d (omega (arith, le)) (omega (arith, lt))) least y h

-- ---- one more of either list

module _ {X : Type 0} (kind : PostingKind X) where
  -- so many of one list and so many of another are merged, their rows numbered by f and g
  record IsPart (f g : ℕ → ℕ) (a b : List X) (i j : ℕ) (out : List X) : Type 0 where
    a_within : i ≤ length a
    b_within : j ≤ length b
    same : IsPermutation (map (moved kind f) (take i a) ++ map (moved kind g) (take j b)) out
    rising : IsNonDecreasingBy kind.rank out
    a_left : NoneAbove kind out (drop i a)
    b_left : NoneAbove kind out (drop j b)

  turned : (f g : ℕ → ℕ) (a b : List X) (i j : ℕ) (out : List X) → IsPart f g a b i j out → IsPart g f b a j i out
  turned f g a b i j out part = record {
    a_within = part.b_within;
    b_within = part.a_within;
    same = (
        let xs = map (moved kind f) (take i a) in
        let ys = map (moved kind g) (take j b) in
        IsPermutation-trans (ys ++ xs) (xs ++ ys) out (IsPermutation-append_comm ys xs) part.same);
    rising = part.rising;
    a_left = part.b_left;
    b_left = part.a_left;
  }

  part_of : (lists : TwoLists) (a b : List X) (taken : TakenCount) (out : List X) → IsMerged kind lists a b taken out → IsPart (number_in_both lists.first lists.second) (number_in_both lists.second lists.first) a b taken.first taken.second out
  part_of lists a b taken out m = record { a_within = m.first_within; b_within = m.second_within; same = m.same; rising = m.rising; a_left = m.first_left; b_left = m.second_left }

  merged_of : (lists : TwoLists) (a b : List X) (taken : TakenCount) (out : List X) → IsPart (number_in_both lists.first lists.second) (number_in_both lists.second lists.first) a b taken.first taken.second out → IsMerged kind lists a b taken out
  merged_of lists a b taken out p = record { first_within = p.a_within; second_within = p.b_within; same = p.same; rising = p.rising; first_left = p.a_left; second_left = p.b_left }

  module _ (same_rank : (n : ℕ) (x : X) → kind.rank (kind.renumbered n x) ≡ kind.rank x) where
    pushed_below : (out left : List X) (m : X) (r : ℕ) → kind.rank m ≡ r → NoneAbove kind out left → ((y : X) → Has left y → r ≤ kind.rank y) → NoneAbove kind (out ++ m ∷ []) left
    pushed_below out left m r is none least z y hz hy = elim (Has-append_cases out (m ∷ []) z hz) [
      | inl o ↦ none z y o hy
      | inr k ↦ elim k [
        | inl e ↦ subst (λ w. kind.rank w ≤ kind.rank y) e (subst (λ q. q ≤ kind.rank y) (sym is) (least y hy))
        | inr f ↦ absurd f
      ]
    ]

    one_more : (f g : ℕ → ℕ) (a b : List X) (i j : ℕ) (out : List X) (x : X) → IsNonDecreasingBy kind.rank a → IsNonDecreasingBy kind.rank b → slice_get a i ≡ Some x → ((y : X) → slice_get b j ≡ Some y → kind.rank x ≤ kind.rank y)
        → IsPart f g a b i j out → IsPart f g a b (suc i) j (out ++ moved kind f x ∷ [])
    one_more f g a b i j out x up_a up_b there least part =
        let m = moved kind f x in
        let is : kind.rank m ≡ kind.rank x = same_rank (f (kind.number x)) x in
        let within : i < length a = slice_get_within a i x there in
        let of_a : (y : X) → Has (drop i a) y → kind.rank x ≤ kind.rank y = left_above kind.rank a i (kind.rank x) up_a (λ y e. (let same : x ≡ y = cc in subst (λ z. kind.rank x ≤ kind.rank z) same (omega arith))) in
        let of_b : (y : X) → Has (drop j b) y → kind.rank x ≤ kind.rank y = left_above kind.rank b j (kind.rank x) up_b least in
        record {
          a_within = omega (arith, within);
          b_within = part.b_within;
          same = subst (λ l. IsPermutation (map (moved kind f) l ++ map (moved kind g) (take j b)) (out ++ m ∷ [])) (sym (take_one a i x there))
              (subst (λ l. IsPermutation (l ++ map (moved kind g) (take j b)) (out ++ m ∷ [])) (sym (map-append (moved kind f) (take i a) (x ∷ [])))
              (permuted_with_last (map (moved kind f) (take i a)) (map (moved kind g) (take j b)) out m part.same));
          rising = IsNonDecreasingBy-push kind.rank out m part.rising (λ d lt.
              let le = part.a_left (get_or out (length out - 1) d) x (Has-get_or out (length out - 1) d (omega (arith, lt))) (has_there a i x there) in
              subst (λ r. kind.rank (get_or out (length out - 1) d) ≤ r) (sym is) le);
          a_left = pushed_below out (drop (suc i) a) m (kind.rank x) is (λ z y hz hy. part.a_left z y hz (has_more a i y hy)) (λ y hy. of_a y (has_more a i y hy));
          b_left = pushed_below out (drop j b) m (kind.rank x) is part.b_left of_b;
        }

    module _ (lists : TwoLists) (a b : List X) (taken more : TakenCount) (out longer : List X) (up_a : IsNonDecreasingBy kind.rank a) (up_b : IsNonDecreasingBy kind.rank b) (merged : IsMerged kind lists a b taken out) where
      pub first_taken : ComesNext kind a taken.first b taken.second → more ≡ record { first = taken.first + 1; second = taken.second }
          → ((x : X) → slice_get a taken.first ≡ Some x → longer ≡ out ++ moved kind (number_in_both lists.first lists.second) x ∷ []) → IsMerged kind lists a b more longer
      first_taken next more_is longer_is =
          let f = number_in_both lists.first lists.second in
          let g = number_in_both lists.second lists.first in
          let part = one_more f g a b taken.first taken.second out next.x up_a up_b next.there next.least (part_of lists a b taken out merged) in
          let first : suc taken.first ≡ more.first = (let e = ap (λ (t : TakenCount). t.first) more_is in sym (e ∙ add-one taken.first)) in
          let second : taken.second ≡ more.second = sym (ap (λ (t : TakenCount). t.second) more_is) in
          merged_of lists a b more longer
          (subst (λ n. IsPart f g a b n more.second longer) first
          (subst (λ n. IsPart f g a b (suc taken.first) n longer) second
          (subst (λ l. IsPart f g a b (suc taken.first) taken.second l) (sym (longer_is next.x next.there)) part)))

      pub second_taken : ComesNext kind b taken.second a taken.first → more ≡ record { first = taken.first; second = taken.second + 1 }
          → ((y : X) → slice_get b taken.second ≡ Some y → longer ≡ out ++ moved kind (number_in_both lists.second lists.first) y ∷ []) → IsMerged kind lists a b more longer
      second_taken next more_is longer_is =
          let f = number_in_both lists.first lists.second in
          let g = number_in_both lists.second lists.first in
          let part = one_more g f b a taken.second taken.first out next.x up_b up_a next.there next.least (turned f g a b taken.first taken.second out (part_of lists a b taken out merged)) in
          let first : taken.first ≡ more.first = sym (ap (λ (t : TakenCount). t.first) more_is) in
          let second : suc taken.second ≡ more.second = (let e = ap (λ (t : TakenCount). t.second) more_is in sym (e ∙ add-one taken.second)) in
          merged_of lists a b more longer (turned g f b a more.second more.first longer
          (subst (λ n. IsPart g f b a more.second n longer) first
          (subst (λ n. IsPart g f b a n taken.first longer) second
          (subst (λ l. IsPart g f b a (suc taken.second) taken.first l) (sym (longer_is next.x next.there)) part))))

-- ---- at the beginning, and at the end

module _ {X : Type 0} (kind : PostingKind X) (lists : TwoLists) (a b : List X) where
  pub none_merged : IsMerged kind lists a b (record { first = 0; second = 0 }) []
  none_merged = record {
    first_within = omega arith;
    second_within = omega arith;
    same = IsPermutation-refl [];
    rising = λ i j d le lt. absurd (omega (arith, lt));
    first_left = λ x y h k. absurd h;
    second_left = λ x y h k. absurd h;
  }

  pub all_merged : (taken : TakenCount) (out : List X) → IsMerged kind lists a b taken out → count_left a b taken ≡ 0 → IsPermutation (first_moved kind lists a ++ second_moved kind lists b) out
  all_merged taken out m none =
      let a_within = m.first_within in
      let b_within = m.second_within in
      let whole_a : take taken.first a ≡ a = take_all taken.first a (omega (arith, none, a_within)) in
      let whole_b : take taken.second b ≡ b = take_all taken.second b (omega (arith, none, b_within)) in
      subst (λ l. IsPermutation (first_moved kind lists l ++ second_moved kind lists b) out) whole_a
      (subst (λ l. IsPermutation (first_moved kind lists (take taken.first a) ++ second_moved kind lists l) out) whole_b m.same)
