-- The two segments of fewest rows among those so far.
use Rattle.std.proofs.Common.{◌≡◌, ◌⊎◌, inl, inr, ℕ, ◌+◌, ◌<◌, List, length, refl, sym, subst, ◌∙◌, arith}
use Rattle.std.specs.Prelude.{◌≢◌}
use Rattle.std.proofs.lemmas.Bool.{cases_lt}
use Rattle.directory.specs.declared.entry.Entry.{Entry}
use Rattle.history_store.specs.Merging.{AreFewest, FewestAreOne, ComesFirst, rows_of_segment}

pub record AreFewestBelow (entries : List Entry) (k first second : ℕ) : Type 0 where
  pub first_in : first < k
  pub second_in : second < k
  pub unlike : first ≢ second
  pub order : ComesFirst entries first second
  pub rest : (p : ℕ) → p < k → p ≢ first → p ≢ second → ComesFirst entries second p

comes_trans : (entries : List Entry) (p q r : ℕ) → ComesFirst entries p q → ComesFirst entries q r → ComesFirst entries p r
comes_trans entries p q r (inl a) (inl b) = inl (omega (arith, a, b))
comes_trans entries p q r (inl a) (inr b) = inl (omega (arith, a, b.0))
comes_trans entries p q r (inr a) (inl b) = inl (omega (arith, a.0, b))
comes_trans entries p q r (inr a) (inr b) = inr (omega (arith, a.0, b.0), omega (arith, a.1, b.1))

-- one that has no more rows, and is listed before
comes_before : (entries : List Entry) (p k : ℕ) → (rows_of_segment entries k < rows_of_segment entries p → ⊥) → p < k → ComesFirst entries p k
comes_before entries p k few below = elim (cases_lt (rows_of_segment entries p) (rows_of_segment entries k)) [
  | inl less ↦ inl less
  | inr more ↦ elim (cases_lt (rows_of_segment entries k) (rows_of_segment entries p)) [
    | inl fewer ↦ absurd (few fewer)
    | inr same ↦ inr (omega (arith, more, same), below)
  ]
]

-- fewer than the second means before all that come after it
comes_over : (entries : List Entry) (k s p : ℕ) → rows_of_segment entries k < rows_of_segment entries s → ComesFirst entries s p → ComesFirst entries k p
comes_over entries k s p less (inl a) = inl (omega (arith, less, a))
comes_over entries k s p less (inr a) = inl (omega (arith, less, a.0))

is_or : (p q : ℕ) → (p ≡ q) ⊎ (p ≢ q)
is_or p q = elim (cases_lt p q) [
  | inl below ↦ inr (λ same. absurd (omega (arith, below, same)))
  | inr at ↦ elim (cases_lt q p) [
    | inl above ↦ inr (λ same. absurd (omega (arith, above, same)))
    | inr same ↦ inl (omega (arith, at, same))
  ]
]

module _ (entries : List Entry) (k f s : ℕ) (are : AreFewestBelow entries k f s) where
  pub fewer_than_first : rows_of_segment entries k < rows_of_segment entries f → AreFewestBelow entries (k + 1) k f
  fewer_than_first less = record {
    first_in = omega arith;
    second_in = omega (arith, are.first_in);
    unlike = λ same. absurd (omega (arith, same, are.first_in));
    order = inl less;
    rest = λ p lt not_k not_f. elim (is_or p s) [
      | inl same ↦ subst (λ n. ComesFirst entries f n) (sym same) are.order
      | inr not_s ↦ comes_trans entries f s p are.order (are.rest p (elim (cases_lt p k) [ inl below ↦ below | inr at ↦ absurd (not_k (omega (arith, lt, at))) ]) not_f not_s)
    ];
  }

  pub fewer_than_second : (rows_of_segment entries k < rows_of_segment entries f → ⊥) → rows_of_segment entries k < rows_of_segment entries s → AreFewestBelow entries (k + 1) f k
  fewer_than_second few less = record {
    first_in = omega (arith, are.first_in);
    second_in = omega arith;
    unlike = λ same. absurd (omega (arith, same, are.first_in));
    order = comes_before entries f k few are.first_in;
    rest = λ p lt not_f not_k. elim (is_or p s) [
      | inl same ↦ subst (λ n. ComesFirst entries k n) (sym same) (inl less)
      | inr not_s ↦ comes_over entries k s p less (are.rest p (elim (cases_lt p k) [ inl below ↦ below | inr at ↦ absurd (not_k (omega (arith, lt, at))) ]) not_f not_s)
    ];
  }

  pub no_fewer : (rows_of_segment entries k < rows_of_segment entries s → ⊥) → AreFewestBelow entries (k + 1) f s
  no_fewer few = record {
    first_in = omega (arith, are.first_in);
    second_in = omega (arith, are.second_in);
    unlike = are.unlike;
    order = are.order;
    rest = λ p lt not_f not_s. elim (is_or p k) [
      | inl same ↦ subst (λ n. ComesFirst entries s n) (sym same) (comes_before entries s k few are.second_in)
      | inr not_k ↦ are.rest p (elim (cases_lt p k) [ inl below ↦ below | inr at ↦ absurd (not_k (omega (arith, lt, at))) ]) not_f not_s
    ];
  }

pub are_fewest : (entries : List Entry) (f s : ℕ) → AreFewestBelow entries (length entries) f s → f < s → AreFewest entries f s
are_fewest entries f s are below = record {
  below = below;
  within = are.second_in;
  first = λ k lt not_f not_s. comes_trans entries f s k are.order (are.rest k lt not_f not_s);
  second = λ k lt not_f not_s. are.rest k lt not_f not_s;
}

pub are_fewest_turned : (entries : List Entry) (f s : ℕ) → AreFewestBelow entries (length entries) f s → (f < s → ⊥) → AreFewest entries s f
are_fewest_turned entries f s are turned = record {
  below = elim (cases_lt s f) [ inl below ↦ below | inr at ↦ elim (cases_lt f s) [ inl above ↦ absurd (turned above) | inr same ↦ absurd (are.unlike (omega (arith, at, same))) ] ];
  within = are.first_in;
  first = λ k lt not_s not_f. are.rest k lt not_f not_s;
  second = λ k lt not_s not_f. comes_trans entries f s k are.order (are.rest k lt not_f not_s);
}

-- ---- there are no other two

not_both : (entries : List Entry) (p q : ℕ) → ComesFirst entries p q → ComesFirst entries q p → ⊥
not_both entries p q (inl a) (inl b) = absurd (omega (arith, a, b))
not_both entries p q (inl a) (inr b) = absurd (omega (arith, a, b.0))
not_both entries p q (inr a) (inl b) = absurd (omega (arith, a.0, b))
not_both entries p q (inr a) (inr b) = absurd (omega (arith, a.1, b.1))

-- of three among two, two are the same
three : (p k l i j : ℕ) → (p ≡ i) ⊎ (p ≡ j) → (k ≡ i) ⊎ (k ≡ j) → (l ≡ i) ⊎ (l ≡ j) → p ≢ k → p ≢ l → k < l → ⊥
three p k l i j (inl a) (inl b) c not_k not_l lt = absurd (not_k (a ∙ sym b))
three p k l i j (inl a) (inr b) (inl c) not_k not_l lt = absurd (not_l (a ∙ sym c))
three p k l i j (inl a) (inr b) (inr c) not_k not_l lt = absurd (omega (arith, b, c, lt))
three p k l i j (inr a) (inl b) (inl c) not_k not_l lt = absurd (omega (arith, b, c, lt))
three p k l i j (inr a) (inl b) (inr c) not_k not_l lt = absurd (not_l (a ∙ sym c))
three p k l i j (inr a) (inr b) c not_k not_l lt = absurd (not_k (a ∙ sym b))

module _ (entries : List Entry) (i j k l : ℕ) (are : AreFewest entries i j) (others : AreFewest entries k l) where
  comes : (p : ℕ) → (p ≡ i) ⊎ (p ≡ j) → (q : ℕ) → q < length entries → q ≢ i → q ≢ j → ComesFirst entries p q
  comes p (inl same) q lt not_i not_j = subst (λ n. ComesFirst entries n q) (sym same) (are.first q lt not_i not_j)
  comes p (inr same) q lt not_i not_j = subst (λ n. ComesFirst entries n q) (sym same) (are.second q lt not_i not_j)

  -- what comes before one of the two is one of the two
  among : (p q : ℕ) → (p ≡ i) ⊎ (p ≡ j) → q < length entries → ComesFirst entries q p → (q ≡ i) ⊎ (q ≡ j)
  among p q one lt first = elim (is_or q i) [
    | inl same ↦ inl same
    | inr not_i ↦ elim (is_or q j) [
      | inl same ↦ inr same
      | inr not_j ↦ absurd (not_both entries p q (comes p one q lt not_i not_j) first)
    ]
  ]

  one_of : (p : ℕ) → (p ≡ i) ⊎ (p ≡ j) → p < length entries → (p ≡ k) ⊎ (p ≡ l)
  one_of p one lt = elim (is_or p k) [
    | inl same ↦ inl same
    | inr not_k ↦ elim (is_or p l) [
      | inl same ↦ inr same
      | inr not_l ↦ absurd (three p k l i j one
          (among p k one (omega (arith, others.below, others.within)) (others.first p lt not_k not_l))
          (among p l one others.within (others.second p lt not_k not_l)) not_k not_l others.below)
    ]
  ]

both_same : (i j k l : ℕ) → i < j → k < l → (i ≡ k) ⊎ (i ≡ l) → (j ≡ k) ⊎ (j ≡ l) → (i ≡ k) × (j ≡ l)
both_same i j k l below under (inl a) (inl b) = absurd (omega (arith, a, b, below))
both_same i j k l below under (inl a) (inr b) = (a, b)
both_same i j k l below under (inr a) (inl b) = absurd (omega (arith, a, b, below, under))
both_same i j k l below under (inr a) (inr b) = absurd (omega (arith, a, b, below))

pub fewest_are_one : FewestAreOne
fewest_are_one entries i j k l are others =
    both_same i j k l are.below others.below
    (one_of entries i j k l are others i (inl refl) (omega (arith, are.below, are.within)))
    (one_of entries i j k l are others j (inr refl) are.within)
