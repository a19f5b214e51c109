-- The parts round a byte, and those of what was joined.
use Rattle.std.proofs.Common.{◌≡◌, ◌≢◌, ℕ, ◌+◌, ◌-◌, ◌<◌, ◌≤◌, false, eqb, List, [], ◌∷◌, ◌++◌, length, get_or, take, drop, refl, sym, ap, subst, ◌∙◌, arith, inl, inr, All, take-append-drop, get_or-drop, get_or-take}
use Rattle.std.specs.List.{slice_split, onto_first, join_with_byte, AllByRecursion}
use Rattle.std.proofs.lemmas.Bool.{cases_eq, ne_eqb, eq-eqb}
use Rattle.std.proofs.lemmas.List.{drop-drop, drop_more, length-drop, length-take, take_all}
use Rattle.std.proofs.lemmas.List.Elements.{All-from_get_or, All-nil, All-cons}
use Rattle.std.proofs.lemmas.List.Splits.{slice_split_none, slice_split_at, slice_split-cons_yes, slice_split-cons_no}

-- a text without the byte
abbrev pub IsFree : ℕ → List ℕ → Type 0
IsFree c text = All (λ b. eqb b c ≡ false) text

module _ (c : ℕ) (hay : List ℕ) where
  -- the byte stands nowhere from place a up to place b
  abbrev pub Nowhere : ℕ → ℕ → Type 0
  Nowhere a b = (k : ℕ) → a ≤ k → k < b → k < length hay → get_or hay k 0 ≢ c

  Nowhere-free : (a b : ℕ) → Nowhere a b → IsFree c (take (b - a) (drop a hay))
  Nowhere-free a b none =
      All-from_get_or (λ x. eqb x c ≡ false) (take (b - a) (drop a hay)) 0
      (λ i lt.
      let short = length-take (b - a) (drop a hay) in
      let long = length-drop a hay in
      let inside : i < b - a = omega arith in
      rw (get_or-take (b - a) (drop a hay) i 0 inside, get_or-drop a hay i 0) (ne_eqb _ c (none (a + i) (omega arith) (omega arith) (omega arith))))

  pub Nowhere-more : (a b : ℕ) → Nowhere a b → (b < length hay → get_or hay b 0 ≢ c) → Nowhere a (b + 1)
  Nowhere-more a b none here k from to inside =
      elim (cases_eq k b) [
        | inl same ↦ subst (λ (j : ℕ). get_or hay j 0 ≢ c) (sym same) (here (omega arith))
        | inr other ↦ none k from (omega arith) inside
      ]

  -- the byte at place b ends the part that begins at place a
  pub part_ends : (a b : ℕ) → a ≤ b → b < length hay → Nowhere a b → get_or hay b 0 ≡ c
      → slice_split (λ x. eqb x c) (drop a hay) ≡ take (b - a) (drop a hay) ∷ slice_split (λ x. eqb x c) (drop (b + 1) hay)
  part_ends a b le lt none here =
      let cut : drop a hay ≡ take (b - a) (drop a hay) ++ c ∷ drop (b + 1) hay =
      sym (take-append-drop (b - a) (drop a hay)) ∙ ap (λ (t : List ℕ). take (b - a) (drop a hay) ++ t) (drop-drop (b - a) a hay ∙ ap (λ (k : ℕ). drop k hay) (omega arith) ∙ drop_more hay b 0 lt ∙ ap (λ (x : ℕ). x ∷ drop (b + 1) hay) here) in
      ap (slice_split (λ x. eqb x c)) cut ∙ slice_split_at (λ x. eqb x c) (take (b - a) (drop a hay)) c (drop (b + 1) hay) (Nowhere-free a b none) (eq-eqb c c refl)

  -- the part that begins at place a is the last one
  pub part_last : (a : ℕ) → Nowhere a (length hay) → slice_split (λ x. eqb x c) (drop a hay) ≡ drop a hay ∷ []
  part_last a none =
      let long = length-drop a hay in
      slice_split_none (λ x. eqb x c) (drop a hay) (subst (λ (t : List ℕ). IsFree c t) (take_all (length hay - a) (drop a hay) (omega arith)) (Nowhere-free a (length hay) none))

-- what was joined is cut into its parts again
pub split-joined : (c : ℕ) (t : List ℕ) (ts : List (List ℕ)) → IsFree c t → AllByRecursion (IsFree c) ts → slice_split (λ b. eqb b c) (join_with_byte c (t ∷ ts)) ≡ t ∷ ts
split-joined c t [] free all = slice_split_none (λ b. eqb b c) t free
split-joined c t (u ∷ us) free all =
    slice_split_at (λ b. eqb b c) t c (join_with_byte c (u ∷ us)) free (eq-eqb c c refl) ∙ ap (λ (x : List (List ℕ)). t ∷ x) (split-joined c u us all.0 all.1)

onto_free : (c x : ℕ) (parts : List (List ℕ)) → x ≢ c → AllByRecursion (λ t. All (λ b. b ≢ c) t) parts → AllByRecursion (λ t. All (λ b. b ≢ c) t) (onto_first x parts)
onto_free c x [] other h = (All-cons (λ b. b ≢ c) x [] other (All-nil (λ (b : ℕ). b ≢ c)), tt)
onto_free c x (p ∷ ps) other h = (All-cons (λ b. b ≢ c) x p other h.0, h.1)

-- the parts of a text don't have the byte round which it was cut
pub parts_free : (c : ℕ) (text : List ℕ) → AllByRecursion (λ t. All (λ b. b ≢ c) t) (slice_split (λ b. eqb b c) text)
parts_free c [] = (All-nil (λ (b : ℕ). b ≢ c), tt)
parts_free c (x ∷ xs) =
    elim (cases_eq x c) [
      | inl same ↦
          subst (λ (ts : List (List ℕ)). AllByRecursion (λ t. All (λ b. b ≢ c) t) ts) (sym (slice_split-cons_yes (λ b. eqb b c) x xs (eq-eqb x c same))) (All-nil (λ (b : ℕ). b ≢ c), parts_free c xs)
      | inr other ↦
          subst (λ (ts : List (List ℕ)). AllByRecursion (λ t. All (λ b. b ≢ c) t) ts) (sym (slice_split-cons_no (λ b. eqb b c) x xs (ne_eqb x c other))) (onto_free c x (slice_split (λ b. eqb b c) xs) other (parts_free c xs))
    ]
