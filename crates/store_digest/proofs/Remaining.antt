-- The rows that are left after a key.
use Rattle.std.proofs.Common.{◌≡◌, ℕ, ◌+◌, ◌<◌, ◌≤◌, Bool, true, false, cond, List, [], ◌∷◌, ◌++◌, length, take, map, refl, sym, ap, subst, inl, inr, ◌∙◌, arith, append_assoc}
use Rattle.std.specs.Prelude.{Option, Some, None}
use Rattle.std.specs.List.{filter, sum_by}
use Rattle.std.specs.declared.cmp.Ordering.TheVariants.{Less}
use Rattle.std.proofs.lemmas.List.Sums.{sum_by-cons}
use Rattle.list_lemmas.proofs.Tests.{less_from_test}
use Rattle.rf2_values.specs.declared.key.Key.{Key}
use Rattle.rf2_values.specs.Row.{RowValue}
use Rattle.rf2_values.specs.Key.{key_of}
use Rattle.history_model.specs.InOrder.{Has, IsAscending}
use Rattle.history_model.specs.History.{row_cmp}
use Rattle.history_model.specs.KeyOrder.{is_after, rows_after}
use Rattle.history_model.proofs.InOrder.{Has-all, not_below_itself, same_ascending}
use Rattle.history_model.proofs.Filtered.{Has-filter, Has-filter_from, IsAscending-filter}
use Rattle.history_model.proofs.Keys.{rows_total}
use Rattle.as_of_index.proofs.KeyOrder.{further, is_lt_of, not_after_itself}
use Rattle.as_of_index.proofs.Paging.{fewer}

pub left_after : Option Key → List RowValue → List RowValue
left_after last rows = filter (is_after last) rows

pub all_left : (rows : List RowValue) → filter (is_after None) rows ≡ rows
all_left [] = refl
all_left (row ∷ rows) = ap (λ ys. row ∷ ys) (all_left rows)

less_sum : {X : Type 0} (f : X → ℕ) (p q : X → Bool) (xs : List X) → ((x : X) → q x ≡ true → p x ≡ true) → sum_by f (filter q xs) ≤ sum_by f (filter p xs)
less_sum f p q [] each = omega arith
less_sum f p q (x ∷ xs) each =
    let rest = less_sum f p q xs each in
    let with_q = sum_by-cons f x (filter q xs) in
    let with_p = sum_by-cons f x (filter p xs) in
    elim (q x) as (λ t. (t ≡ true → p x ≡ true) → sum_by f (cond t (x ∷ filter q xs) (filter q xs)) ≤ sum_by f (cond (p x) (x ∷ filter p xs) (filter p xs))) [
      | true ↦ λ g. rw (g refl) (omega arith)
      | false ↦ λ g. elim (p x) as (λ t. sum_by f (filter q xs) ≤ sum_by f (cond t (x ∷ filter p xs) (filter p xs))) [ true ↦ omega arith | false ↦ rest ]
    ] (each x)

-- what the others take is less by what one takes that is left out
pub sum_without : {X : Type 0} (f : X → ℕ) (p q : X → Bool) (xs : List X) (b : X) → ((x : X) → q x ≡ true → p x ≡ true) → Has xs b → p b ≡ true → q b ≡ false → f b + sum_by f (filter q xs) ≤ sum_by f (filter p xs)
sum_without f p q [] b each h e g = absurd h
sum_without f p q (x ∷ xs) b each h e g = elim h [
  | inl s ↦ (
      let e' : p x ≡ true = subst (λ z. p z ≡ true) (sym s) e in
      let g' : q x ≡ false = subst (λ z. q z ≡ false) (sym s) g in
      let same : f x ≡ f b = ap f s in
      let rest = less_sum f p q xs each in
      let with_p = sum_by-cons f x (filter p xs) in
      rw (e', g') (omega arith))
  | inr t ↦ (
      let rest = sum_without f p q xs b each t e g in
      let with_q = sum_by-cons f x (filter q xs) in
      let with_p = sum_by-cons f x (filter p xs) in
      elim (q x) as (λ t. (t ≡ true → p x ≡ true) → f b + sum_by f (cond t (x ∷ filter q xs) (filter q xs)) ≤ sum_by f (cond (p x) (x ∷ filter p xs) (filter p xs))) [
        | true ↦ λ k. rw (k refl) (omega arith)
        | false ↦ λ k. elim (p x) as (λ t. f b + sum_by f (filter q xs) ≤ sum_by f (cond t (x ∷ filter p xs) (filter p xs))) [ true ↦ omega arith | false ↦ rest ]
      ] (each x))
]

-- the first row that is left
pub record IsFirstLeft (last : Option Key) (rows : List RowValue) (b : RowValue) : Type 0 where
  pub rest : List RowValue
  pub left_is : filter (is_after last) rows ≡ b ∷ rest
  pub there : Has rows b
  pub comes_after : is_after last b ≡ true

first_left : (last : Option Key) (rows : List RowValue) (b : RowValue) (rest : List RowValue) → filter (is_after last) rows ≡ b ∷ rest → IsFirstLeft last rows b
first_left last rows b rest e =
    let w = Has-filter (is_after last) rows b (subst (λ ys. Has ys b) (sym e) (inl refl)) in
    record { rest = rest; left_is = e; there = w.0; comes_after = w.1 }

-- a key was answered, that of the first row that is left
pub key_answered : (last : Option Key) (rows : List RowValue) (key : Key) → key ∷ [] ≡ map key_of (rows_after last 1 rows) → (b : RowValue) × IsFirstLeft last rows b × (key ≡ key_of b) × (rows_after last 1 rows ≡ b ∷ [])
unfolding rows_after
key_answered last rows key e = by (filter (is_after last) rows) refl where
  key_or : Key → List Key → Key
  key_or k [] = k
  key_or k (x ∷ xs) = x

  by : (ys : List RowValue) → filter (is_after last) rows ≡ ys → (b : RowValue) × IsFirstLeft last rows b × (key ≡ key_of b) × (rows_after last 1 rows ≡ b ∷ [])
  by [] f = absurd (let g : key ∷ [] ≡ [] = e ∙ ap (λ ys. map key_of (take 1 ys)) f in cc)
  by (b ∷ ys) f = (b, first_left last rows b ys f, ap (key_or key) (e ∙ ap (λ zs. map key_of (take 1 zs)) f), ap (take 1) f)

pub none_answered : (last : Option Key) (rows : List RowValue) → [] ≡ map key_of (rows_after last 1 rows) → (filter (is_after last) rows ≡ []) × (rows_after last 1 rows ≡ [])
unfolding rows_after
none_answered last rows e = by (filter (is_after last) rows) refl where
  by : (ys : List RowValue) → filter (is_after last) rows ≡ ys → (filter (is_after last) rows ≡ []) × (rows_after last 1 rows ≡ [])
  by [] f = (f, ap (take 1) f)
  by (b ∷ ys) f = absurd (let g : [] ≡ key_of b ∷ [] = e ∙ ap (λ zs. map key_of (take 1 zs)) f in cc)

-- the first row takes no more than all that are left
pub first_takes_less : (f : RowValue → ℕ) (last : Option Key) (rows : List RowValue) → sum_by f (rows_after last 1 rows) ≤ sum_by f (filter (is_after last) rows)
unfolding rows_after
first_takes_less f last rows = by (filter (is_after last) rows) where
  by : (ys : List RowValue) → sum_by f (take 1 ys) ≤ sum_by f ys
  by [] = omega arith
  by (b ∷ ys) =
      let one = sum_by-cons f b [] in
      let all = sum_by-cons f b ys in
      omega arith

module _ (last : Option Key) (rows : List RowValue) (b : RowValue) (first : IsFirstLeft last rows b) where
  pub fewer_left : length (filter (is_after (Some (key_of b))) rows) < length (filter (is_after last) rows)
  fewer_left = fewer (is_after last) (is_after (Some (key_of b))) rows b (λ x e. further last (key_of b) (key_of x) first.comes_after e) first.there first.comes_after (not_after_itself (key_of b))

  pub less_left : (f : RowValue → ℕ) → f b + sum_by f (filter (is_after (Some (key_of b))) rows) ≤ sum_by f (filter (is_after last) rows)
  less_left f = sum_without f (is_after last) (is_after (Some (key_of b))) rows b (λ x e. further last (key_of b) (key_of x) first.comes_after e) first.there first.comes_after (not_after_itself (key_of b))

  pub rest_left : IsAscending row_cmp rows → first.rest ≡ filter (is_after (Some (key_of b))) rows
  rest_left up =
      let rising : IsAscending row_cmp (b ∷ first.rest) = subst (IsAscending row_cmp) first.left_is (IsAscending-filter (is_after last) row_cmp rows up) in
      same_ascending rows_total first.rest (filter (is_after (Some (key_of b))) rows) rising.1 (IsAscending-filter (is_after (Some (key_of b))) row_cmp rows up)
      (λ z h.
      let w = Has-filter (is_after last) rows z (subst (λ ys. Has ys z) (sym first.left_is) (inr h)) in
      Has-filter_from (is_after (Some (key_of b))) rows z w.0 (is_lt_of (row_cmp b z) (Has-all (λ y. row_cmp b y ≡ Less) first.rest z rising.0 h)))
      (λ z h.
      let w = Has-filter (is_after (Some (key_of b))) rows z h in
      elim (subst (λ ys. Has ys z) first.left_is (Has-filter_from (is_after last) rows z w.0 (further last (key_of b) (key_of z) first.comes_after w.1))) [
        | inl s ↦ absurd (not_below_itself rows_total z (subst (λ y. row_cmp y z ≡ Less) s (less_from_test (row_cmp b z) w.1)))
        | inr t ↦ t
      ])

  -- one row more is done, and one less is left
  pub one_moved : IsAscending row_cmp rows → (done : List RowValue) → (done ++ b ∷ []) ++ filter (is_after (Some (key_of b))) rows ≡ done ++ filter (is_after last) rows
  one_moved up done =
      append_assoc done (b ∷ []) (filter (is_after (Some (key_of b))) rows)
      ∙ ap (λ ys. done ++ b ∷ ys) (sym (rest_left up))
      ∙ ap (λ ys. done ++ ys) (sym first.left_is)
