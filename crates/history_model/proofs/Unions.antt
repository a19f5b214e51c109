-- The union of two lists that share no key: its first row, and how much it is.
use Rattle.std.specs.List.{AllByRecursion, sum_by}
use Rattle.std.specs.declared.cmp.Ordering.{Ordering}
use Rattle.std.specs.declared.cmp.Ordering.TheVariants.{Less, Equal, Greater}
use Rattle.std.proofs.Common.{◌≡◌, inl, inr, ℕ, ◌+◌, List, [], ◌∷◌, ◌++◌, length, refl, sym, ap, ◌∙◌, arith}
use Rattle.std.proofs.lemmas.List.Sums.{sum_by-cons, sum_by-append}
use Rattle.rf2_values.specs.Key.{key_of}
use Rattle.history_model.specs.declared.stamped.StampedRow.{StampedRow}
use Rattle.history_model.specs.InOrder.{Has, IsAscending, placed, put, put_all}
use Rattle.history_model.specs.History.{stamped_cmp}
use Rattle.history_model.specs.Lists.{union}
use Rattle.history_model.specs.Private.{ShareNoKey}
use Rattle.history_model.proofs.InOrder.{Has-all, Has-append_left, Has-append_right, Has-append_cases, Has-put_cases, in_order_first}
use Rattle.history_model.proofs.Keys.{stamped_total, same_key, tie_of_same}

-- both ascend, and no key is in both
pub record AreTwo (xs ys : List StampedRow) : Type 0 where
  pub xs_ascend : IsAscending stamped_cmp xs
  pub ys_ascend : IsAscending stamped_cmp ys
  pub apart : ShareNoKey xs ys

-- the first row of the first list is that of the union, if it is below each of the second
pub union_left : (x : StampedRow) (xs ys : List StampedRow) → AreTwo (x ∷ xs) ys → AllByRecursion (λ y. stamped_cmp x y ≡ Less) ys → union (x ∷ xs) ys ≡ x ∷ union xs ys
unfolding union
union_left x xs ys two below =
    in_order_first stamped_total x xs ys two.xs_ascend two.ys_ascend (λ s t p q e. two.apart s t p q (same_key (key_of s.row) (key_of t.row) e)) below
    ((x ∷ xs) ++ ys) (xs ++ ys)
    (λ z. Has-append_cases (x ∷ xs) ys z) (λ z k. elim k [ inl p ↦ Has-append_left (x ∷ xs) ys z p | inr q ↦ Has-append_right (x ∷ xs) ys z q ])
    (λ z. Has-append_cases xs ys z) (λ z k. elim k [ inl p ↦ Has-append_left xs ys z p | inr q ↦ Has-append_right xs ys z q ])

-- and so is that of the second one, if it is below each of the first
pub union_right : (y : StampedRow) (xs ys : List StampedRow) → AreTwo xs (y ∷ ys) → AllByRecursion (λ x. stamped_cmp y x ≡ Less) xs → union xs (y ∷ ys) ≡ y ∷ union xs ys
unfolding union
union_right y xs ys two below =
    in_order_first stamped_total y ys xs two.ys_ascend two.xs_ascend (λ s t p q e. two.apart t s q p (sym (same_key (key_of s.row) (key_of t.row) e))) below
    (xs ++ (y ∷ ys)) (xs ++ ys)
    (λ z k. elim (Has-append_cases xs (y ∷ ys) z k) [ inl p ↦ inr p | inr q ↦ inl q ]) (λ z k. elim k [ inl p ↦ Has-append_right xs (y ∷ ys) z p | inr q ↦ Has-append_left xs (y ∷ ys) z q ])
    (λ z k. elim (Has-append_cases xs ys z k) [ inl p ↦ inr p | inr q ↦ inl q ]) (λ z k. elim k [ inl p ↦ Has-append_right xs ys z p | inr q ↦ Has-append_left xs ys z q ])

-- of no rows there are none
pub union_none : union [] [] ≡ []
unfolding union
union_none = refl

-- no key is in both rows
abbrev Differ : StampedRow → StampedRow → Type 0
Differ s t = key_of s.row ≡ key_of t.row → ⊥

-- no two of them share a key
abbrev AllDiffer : List StampedRow → Type 0
AllDiffer [] = Unit {0}
AllDiffer (s ∷ rows) = ((t : StampedRow) → Has rows t → Differ s t) × AllDiffer rows

less_is_no_tie : (r : Ordering) → r ≡ Less → r ≡ Equal → ⊥
less_is_no_tie r less equal = absurd cc

ascending_differ : (rows : List StampedRow) → IsAscending stamped_cmp rows → AllDiffer rows
ascending_differ [] up = tt
ascending_differ (s ∷ rows) up =
    (λ t there keys. less_is_no_tie (stamped_cmp s t) (Has-all (λ u. stamped_cmp s u ≡ Less) rows t up.0 there) (tie_of_same s.row t.row keys), ascending_differ rows up.1)

append_differ : (xs ys : List StampedRow) → AllDiffer xs → AllDiffer ys → ShareNoKey xs ys → AllDiffer (xs ++ ys)
append_differ [] ys a b apart = b
append_differ (x ∷ xs) ys a b apart =
    (λ t there. elim (Has-append_cases xs ys t there) [ inl l ↦ a.0 t l | inr r ↦ apart x t (inl refl) r ], append_differ xs ys a.1 b (λ s t h k. apart s t (inr h) k))

module _ (f : StampedRow → ℕ) where
  placed_sum : (s t : StampedRow) (rows more : List StampedRow) (r : Ordering) → (r ≡ Equal → ⊥) → sum_by f more ≡ f s + sum_by f rows → sum_by f (placed r s t rows more) ≡ f s + sum_by f (t ∷ rows)
  placed_sum s t rows more Less untied same = sum_by-cons f s (t ∷ rows)
  placed_sum s t rows more Equal untied same = absurd (untied refl)
  placed_sum s t rows more Greater untied same = omega (arith, same, sum_by-cons f t more, sum_by-cons f t rows)

  put_sum : (s : StampedRow) (rows : List StampedRow) → ((t : StampedRow) → Has rows t → Differ s t) → sum_by f (put stamped_cmp s rows) ≡ f s + sum_by f rows
  put_sum s [] differ = sum_by-cons f s []
  put_sum s (t ∷ rows) differ =
      placed_sum s t rows (put stamped_cmp s rows) (stamped_cmp s t) (λ tie. differ t (inl refl) (same_key (key_of s.row) (key_of t.row) tie)) (put_sum s rows (λ u there. differ u (inr there)))

  put_all_sum : (xs ys : List StampedRow) → AllDiffer xs → ((s t : StampedRow) → Has xs s → Has ys t → Differ s t) → sum_by f (put_all stamped_cmp xs ys) ≡ sum_by f xs + sum_by f ys
  put_all_sum [] ys among between = let none : sum_by f [] ≡ 0 = refl in omega (arith, none)
  put_all_sum (x ∷ xs) ys among between =
      let one = put_sum x ys (λ t there. between x t (inl refl) there) in
      let rest = put_all_sum xs (put stamped_cmp x ys) among.1 (λ s t in_xs in_put. elim (Has-put_cases stamped_cmp x ys t in_put) [
        | inl same ↦ λ keys. among.0 s in_xs (ap (λ (u : StampedRow). key_of u.row) same ∙ sym keys)
        | inr old ↦ between s t (inr in_xs) old
      ]) in
      omega (arith, one, rest, sum_by-cons f x xs)

  -- what a number of each row sums to
  pub sum_by-union : (a b : List StampedRow) → IsAscending stamped_cmp a → IsAscending stamped_cmp b → ShareNoKey a b → sum_by f (union a b) ≡ sum_by f a + sum_by f b
  unfolding union
  sum_by-union a b a_up b_up apart =
      let all = put_all_sum (a ++ b) [] (append_differ a b (ascending_differ a a_up) (ascending_differ b b_up) apart) (λ s t h k. absurd k) in
      let none : sum_by f [] ≡ 0 = refl in
      omega (arith, all, sum_by-append f a b, none)

counted : (rows : List StampedRow) → sum_by (λ s. 1) rows ≡ length rows
counted [] = refl
counted (s ∷ rows) = let rest = counted rows in omega (arith, rest, sum_by-cons (λ (t : StampedRow). 1) s rows)

pub length-union : (a b : List StampedRow) → IsAscending stamped_cmp a → IsAscending stamped_cmp b → ShareNoKey a b → length (union a b) ≡ length a + length b
length-union a b a_up b_up apart = omega (arith, sum_by-union (λ s. 1) a b a_up b_up apart, counted a, counted b, counted (union a b))
