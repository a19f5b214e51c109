-- Each row has one rank at most, since it is posted once by length and type.
use Rattle.std.proofs.Common.{◌≡◌, ◌⊎◌, ℕ, zero, suc, ◌+◌, ◌<◌, ◌≤◌, Bool, true, false, List, [], ◌∷◌, ◌++◌, length, get_or, map, cond, refl, sym, ap, subst, inl, inr, ◌∙◌, arith}
use Rattle.std.specs.Prelude.{Some, slice_get, nat_eq, chars, if◌then◌else◌}
use Rattle.std.specs.List.{sum_by}
use Rattle.std.specs.List.Sorted.{IsPermutation}
use Rattle.std.proofs.lemmas.Bool.Decides.{nat_tests}
use Rattle.std.proofs.lemmas.List.Sums.{sum_by-cons, sum_by-append}
use Rattle.std.proofs.lemmas.List.Sorted.{sum_by-IsPermutation}
use Rattle.std.proofs.lemmas.Option.{same_Some}
use Rattle.rf2_values.specs.declared.row.Body.{Body}
use Rattle.rf2_values.specs.declared.row.Body.TheVariants as body
use Rattle.rf2_values.specs.Row.{RowValue}
use Rattle.history_model.specs.declared.stamped.StampedRow.{StampedRow}
use Rattle.word_model.specs.Words.{words}
use Rattle.as_of_index.specs.Postings.{posted_all}
use Rattle.term_prefix.specs.Terms.{TermAt}
use Rattle.term_words.specs.declared.ordered.Split.{Split}
use Rattle.term_words.specs.Posted.{ArePosted, posted_words, keyed, keys_of, measure_key, word_key}
use Rattle.term_words.specs.Laid.{IsSizeKey, by_rank}
use Rattle.term_words.specs.Private.{all_in, IsSplit}
use Rattle.term_words.proofs.Splits.{size_key}

zero_le : (n : ℕ) → 0 ≤ n
zero_le n = omega arith

module _ (i : ℕ) where
  -- 1 of a posting of row `i` by length and type, 0 of any other one
  abbrev own : TermAt → ℕ
  own t = cond (nat_eq (get_or t.folded 0 2) 0) (cond (nat_eq t.row i) 1 0) 0

  words_none : (j : ℕ) (ws : List (List ℕ)) → sum_by own (map (keyed j) (map word_key ws)) ≡ 0
  words_none j [] = refl
  words_none j (w ∷ ws) =
      let first : sum_by own (map (keyed j) (map word_key (w ∷ ws))) ≡ 0 + sum_by own (map (keyed j) (map word_key ws)) = sum_by-cons own (keyed j (word_key w)) (map (keyed j) (map word_key ws)) in
      let rest = words_none j ws in
      omega (arith, first, rest)

  body_sum : (b : Body) (j : ℕ) → sum_by own (map (keyed j) (keys_of b)) ≤ cond (nat_eq j i) 1 0
  body_sum (body.Concept c) j = zero_le (cond (nat_eq j i) 1 0)
  body_sum (body.Description d) j =
      let first : sum_by own (map (keyed j) (keys_of (body.Description d))) ≡ cond (nat_eq j i) 1 0 + sum_by own (map (keyed j) (map word_key (words d.term))) =
      sum_by-cons own (keyed j (measure_key (length (chars d.term)) d.type_id)) (map (keyed j) (map word_key (words d.term))) in
      let rest = words_none j (words d.term) in
      omega (arith, first, rest)
  body_sum (body.Relationship r) j = zero_le (cond (nat_eq j i) 1 0)
  body_sum (body.Association a) j = zero_le (cond (nat_eq j i) 1 0)
  body_sum (body.Concrete c) j = zero_le (cond (nat_eq j i) 1 0)
  body_sum (body.Member m) j = zero_le (cond (nat_eq j i) 1 0)

  row_sum : (row : RowValue) (j : ℕ) → sum_by own (posted_words row j) ≤ cond (nat_eq j i) 1 0
  row_sum row j = by row.active where
    by : (b : Bool) → sum_by own (if b then map (keyed j) (keys_of row.body) else []) ≤ cond (nat_eq j i) 1 0
    by true = body_sum row.body j
    by false = zero_le (cond (nat_eq j i) 1 0)

  all_sum : (from : ℕ) (rows : List StampedRow) → (sum_by own (posted_all posted_words from rows) ≤ 1) × (i < from → sum_by own (posted_all posted_words from rows) ≡ 0)
  all_sum from [] = (zero_le 1, λ lt. refl)
  all_sum from (s ∷ rows) = by (nat_eq from i) refl (row_sum s.row from) (all_sum (from + 1) rows) (sum_by-append own (posted_words s.row from) (posted_all posted_words (from + 1) rows)) where
    by : (b : Bool) → nat_eq from i ≡ b → sum_by own (posted_words s.row from) ≤ cond b 1 0 → (sum_by own (posted_all posted_words (from + 1) rows) ≤ 1) × (i < from + 1 → sum_by own (posted_all posted_words (from + 1) rows) ≡ 0)
        → sum_by own (posted_words s.row from ++ posted_all posted_words (from + 1) rows) ≡ sum_by own (posted_words s.row from) + sum_by own (posted_all posted_words (from + 1) rows) → (sum_by own (posted_words s.row from ++ posted_all posted_words (from + 1) rows) ≤ 1) × (i < from → sum_by own (posted_words s.row from ++ posted_all posted_words (from + 1) rows) ≡ 0)
    by true is le rest both =
        let same : from ≡ i = grind (arith, nat_tests, is) in
        let most : sum_by own (posted_words s.row from) ≤ 1 = le in
        let none = rest.1 (omega (arith, same)) in
        (omega (arith, both, most, none), λ lt. absurd (omega (arith, same, lt)))
    by false is le rest both =
        let most : sum_by own (posted_words s.row from) ≤ 0 = le in
        let few = rest.0 in
        (omega (arith, both, most, few), λ lt. (let none = rest.1 (omega (arith, lt)) in omega (arith, both, most, none)))

  has_one : (xs : List TermAt) (r : ℕ) (t : TermAt) → slice_get xs r ≡ Some t → own t ≡ 1 → 1 ≤ sum_by own xs
  has_one [] r t e one = absurd cc
  has_one (x ∷ xs) zero t e one =
      let first = sum_by-cons own x xs in
      let here : own x ≡ 1 = ap own (same_Some x t e) ∙ one in
      omega (arith, first, here)
  has_one (x ∷ xs) (suc r) t e one =
      let first = sum_by-cons own x xs in
      let rest = has_one xs r t e one in
      omega (arith, first, rest)

  has_two : (xs : List TermAt) (r q : ℕ) (t u : TermAt) → r < q → slice_get xs r ≡ Some t → slice_get xs q ≡ Some u → own t ≡ 1 → own u ≡ 1 → 2 ≤ sum_by own xs
  has_two [] r q t u lt e f one other = absurd cc
  has_two (x ∷ xs) r zero t u lt e f one other = absurd (omega (arith, lt))
  has_two (x ∷ xs) zero (suc q) t u lt e f one other =
      let first = sum_by-cons own x xs in
      let here : own x ≡ 1 = ap own (same_Some x t e) ∙ one in
      let rest = has_one xs q u f other in
      omega (arith, first, here, rest)
  has_two (x ∷ xs) (suc r) (suc q) t u lt e f one other =
      let first = sum_by-cons own x xs in
      let rest = has_two xs r q t u (omega (arith, lt)) e f one other in
      omega (arith, first, rest)

  is_own : (t : TermAt) → IsSizeKey t.folded → t.row ≡ i → own t ≡ 1
  is_own t size row_is = ap (λ n. cond (nat_eq n 0) (cond (nat_eq t.row i) 1 0) 0) size ∙ ap (λ n. cond (nat_eq n i) 1 0) row_is ∙ ap (λ b. cond b 1 0) (itself i) where
    itself : (n : ℕ) → nat_eq n n ≡ true
    itself n = grind (arith, nat_tests)

  one_place : (xs : List TermAt) (r q : ℕ) (t u : TermAt) → sum_by own xs ≤ 1 → slice_get xs r ≡ Some t → slice_get xs q ≡ Some u → own t ≡ 1 → own u ≡ 1 → r ≡ q
  one_place xs r q t u few e f one other = elim (three r q) [
    | inl same ↦ same
    | inr differ ↦ elim differ [
      | inl lt ↦ absurd (let two = has_two xs r q t u lt e f one other in omega (arith, two, few))
      | inr gt ↦ absurd (let two = has_two xs q r u t gt f e other one in omega (arith, two, few))
    ]
  ] where
    three : (m n : ℕ) → (m ≡ n) ⊎ ((m < n) ⊎ (n < m))
    three zero zero = inl refl
    three zero (suc n) = inr (inl (omega arith))
    three (suc m) zero = inr (inr (omega arith))
    three (suc m) (suc n) = elim (three m n) [
      | inl e ↦ inl (ap suc e)
      | inr d ↦ inr (elim d [ inl lt ↦ inl (omega (arith, lt)) | inr gt ↦ inr (omega (arith, gt)) ])
    ]

  -- the ranks of the postings of one row are the same
  pub one_rank : (rows : List StampedRow) (ts : List TermAt) (s : Split) (r q : ℕ) (t u : TermAt) → IsPermutation (posted_all posted_words 0 rows) ts → IsSplit ts s → slice_get (all_in s.sizes) r ≡ Some t → slice_get (all_in s.sizes) q ≡ Some u → t.row ≡ i → u.row ≡ i → r ≡ q
  one_rank rows ts s r q t u moved is e f row_is other_is =
      let sizes = all_in s.sizes in
      let rest = map (by_rank sizes) (all_in s.words) in
      let all = (all_sum 0 rows).0 in
      let same = sum_by-IsPermutation own (posted_all posted_words 0 rows) ts moved in
      let parts : sum_by own ts ≡ sum_by own sizes + sum_by own rest = ap (sum_by own) (sym is.same) ∙ sum_by-append own sizes rest in
      one_place sizes r q t u (omega (arith, all, same, parts)) e f (is_own t (size_key ts s is r t e) row_is) (is_own u (size_key ts s is q u f) other_is)

-- the rows of the list with this number
pub rows_at_number : (lists : List (List StampedRow)) (posted : List (List TermAt)) (n : ℕ) (ts : List TermAt) → ArePosted lists posted → slice_get posted n ≡ Some ts → (rows : List StampedRow) × IsPermutation (posted_all posted_words 0 rows) ts
rows_at_number lists [] n ts are e = absurd cc
rows_at_number [] (us ∷ posted) n ts are e = absurd are
rows_at_number (rows ∷ lists) (us ∷ posted) zero ts are e = (rows, subst (λ xs. IsPermutation (posted_all posted_words 0 rows) xs) (same_Some us ts e) are.0)
rows_at_number (rows ∷ lists) (us ∷ posted) (suc n) ts are e = rows_at_number lists posted n ts are.1 e
