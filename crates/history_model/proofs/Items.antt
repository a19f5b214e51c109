-- What a list has: which of its parts have it, and at which number it stands.
use Rattle.std.proofs.Common.{◌≡◌, ℕ, zero, suc, ◌<◌, List, [], ◌∷◌, length, take, drop, get_or, Some, Bool, true, false, refl, sym, ap, subst, inl, inr, arith}
use Rattle.std.specs.Prelude.{slice_get, if◌then◌else◌}
use Rattle.std.specs.List.{flat_map}
use Rattle.std.specs.List.Sorted.{IsPermutation}
use Rattle.std.proofs.lemmas.List.Elements.{All-from_recursion, recursion_from_All}
use Rattle.std.proofs.lemmas.List.Sorted.{All-permutation}
use Rattle.history_model.specs.InOrder.{Has, joined}
use Rattle.history_model.proofs.InOrder.{Has-all, all_from_has, Has-append_left, Has-append_right, Has-append_cases}

-- it has what stands at a number below its length
pub Has-get_or : {X : Type 0} (xs : List X) (i : ℕ) (d : X) → i < length xs → Has xs (get_or xs i d)
Has-get_or [] i d within = absurd (omega (arith, within))
Has-get_or (x ∷ xs) zero d within = inl refl
Has-get_or (x ∷ xs) (suc i) d within = inr (Has-get_or xs i d (omega (arith, within)))

-- it has what is found at a number
pub Has-slice_get : {X : Type 0} (xs : List X) (i : ℕ) (x : X) → slice_get xs i ≡ Some x → Has xs x
Has-slice_get [] i x found = absurd cc
Has-slice_get (y ∷ xs) zero x found = inl cc
Has-slice_get (y ∷ xs) (suc i) x found = inr (Has-slice_get xs i x found)

-- and what it has is found at one
pub number_of_item : {X : Type 0} (xs : List X) (x : X) → Has xs x
    → (i : ℕ) × (slice_get xs i ≡ Some x)
number_of_item [] x has = absurd has
number_of_item (y ∷ xs) x has = elim has [ inl same ↦ (0, ap Some same) | inr there ↦ let w = number_of_item xs x there in (suc w.0, w.1) ]

-- and at a place below its length
pub place_of_item : {X : Type 0} (xs : List X) (x : X) → Has xs x
    → (i : ℕ) × (i < length xs) × ((d : X) → get_or xs i d ≡ x)
place_of_item [] x has = absurd has
place_of_item (y ∷ xs) x has = elim has [
  | inl same ↦ (0, omega arith, λ d. same)
  | inr there ↦ let w = place_of_item xs x there in let within = w.1 in (suc w.0, omega (arith, within), w.2)
]

-- it has what is among the first so many
pub Has-take : {X : Type 0} (n : ℕ) (xs : List X) (x : X) → Has (take n xs) x → Has xs x
Has-take zero xs x has = absurd has
Has-take (suc n) [] x has = absurd has
Has-take (suc n) (y ∷ xs) x has = elim has [ inl same ↦ inl same | inr there ↦ inr (Has-take n xs x there) ]

-- and what is behind them
pub Has-drop : {X : Type 0} (n : ℕ) (xs : List X) (x : X) → Has (drop n xs) x → Has xs x
Has-drop zero xs x has = has
Has-drop (suc n) [] x has = absurd has
Has-drop (suc n) (y ∷ xs) x has = inr (Has-drop n xs x has)

-- where a list is there only if a test passes, it passed
pub Has-if : {X : Type 0} (b : Bool) (xs : List X) (x : X) → Has (if b then xs else []) x
    → (b ≡ true) × Has xs x
Has-if true xs x has = (refl, has)
Has-if false xs x has = absurd has

-- it has what the same elements in another order have
pub Has-permuted : {X : Type 0} (xs ys : List X) → IsPermutation xs ys → (x : X) → Has ys x
    → Has xs x
Has-permuted xs ys same x has =
    Has-all (λ y. Has xs y) ys x
    (recursion_from_All (λ y. Has xs y) ys (All-permutation (λ y. Has xs y) xs ys same (All-from_recursion (λ y. Has xs y) xs (all_from_has (λ y. Has xs y) xs (λ y there. there))))) has

-- lists one after the other have what one of them has
pub Has-joined_at : {X : Type 0} (lists : List (List X)) (i : ℕ) (xs : List X) (x : X)
    → slice_get lists i ≡ Some xs → Has xs x → Has (joined lists) x
Has-joined_at [] i xs x found has = absurd cc
Has-joined_at {X} (ys ∷ lists) zero xs x found has = let same : xs ≡ ys = cc in Has-append_left ys (joined lists) x (subst (λ (l : List X). Has l x) same has)
Has-joined_at (ys ∷ lists) (suc i) xs x found has = Has-append_right ys (joined lists) x (Has-joined_at lists i xs x found has)

-- what lists that are made of elements have, one of these made
pub Has-flat_map : {X Y : Type 0} (f : X → List Y) (xs : List X) (y : Y) → Has (flat_map f xs) y
    → (x : X) × Has xs x × Has (f x) y
Has-flat_map f [] y has = absurd has
Has-flat_map f (x ∷ xs) y has = elim (Has-append_cases (f x) (flat_map f xs) y has) [
  | inl first ↦ (x, inl refl, first)
  | inr other ↦ let w = Has-flat_map f xs y other in (w.0, inr w.1, w.2)
]

-- and what one of them made, they have
pub Has-flat_map_from : {X Y : Type 0} (f : X → List Y) (xs : List X) (x : X) (y : Y) → Has xs x
    → Has (f x) y → Has (flat_map f xs) y
Has-flat_map_from f [] x y has made = absurd has
Has-flat_map_from f (z ∷ xs) x y has made = elim has [
  | inl same ↦ Has-append_left (f z) (flat_map f xs) y (subst (λ w. Has (f w) y) (sym same) made)
  | inr there ↦ Has-append_right (f z) (flat_map f xs) y (Has-flat_map_from f xs x y there made)
]
