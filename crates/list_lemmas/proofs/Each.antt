-- What is true of each element of a list, as `AllByRecursion` says it.
use Rattle.std.proofs.Common.{◌≡◌, ℕ, zero, suc, ◌<◌, List, [], ◌∷◌, ◌++◌, length, take, drop, get_or, map, Some, All, refl, subst, arith}
use Rattle.std.specs.Prelude.{slice_get, slice_set, remove}
use Rattle.std.specs.List.{AllByRecursion}
use Rattle.std.proofs.lemmas.List.{take_at}
use Rattle.std.proofs.lemmas.List.Elements.{All-take}

module _ {X : Type 0} (P : X → Type 0) where
  -- of each of a list and of one more, so of each of the list with that one behind it
  pub each_of_pushed : (xs : List X) (x : X) → AllByRecursion P xs → P x
      → AllByRecursion P (xs ++ x ∷ [])
  each_of_pushed [] x each last = (last, tt)
  each_of_pushed (y ∷ xs) x each last = (each.0, each_of_pushed xs x each.1 last)

  -- of each of two lists, so of each of both
  pub each_of_both : (xs ys : List X) → AllByRecursion P xs → AllByRecursion P ys
      → AllByRecursion P (xs ++ ys)
  each_of_both [] ys first second = second
  each_of_both (x ∷ xs) ys first second = (first.0, each_of_both xs ys first.1 second)

  -- of each of both lists, so of each of the first
  pub each_of_front : (xs ys : List X) → AllByRecursion P (xs ++ ys) → AllByRecursion P xs
  each_of_front [] ys each = tt
  each_of_front (x ∷ xs) ys each = (each.0, each_of_front xs ys each.1)

  -- and of each of the second
  pub each_of_rest : (xs ys : List X) → AllByRecursion P (xs ++ ys) → AllByRecursion P ys
  each_of_rest [] ys each = each
  each_of_rest (x ∷ xs) ys each = each_of_rest xs ys each.1

  -- of each before one that stands in a list, of that one, and of each behind it
  pub each_of_parts : (xs : List X) (x : X) (ys : List X) → AllByRecursion P (xs ++ x ∷ ys)
      → AllByRecursion P xs × P x × AllByRecursion P ys
  each_of_parts xs x ys each = let rest = each_of_rest xs (x ∷ ys) each in (each_of_front xs (x ∷ ys) each, rest.0, rest.1)

  -- of that one
  pub each_at_middle : (xs : List X) (x : X) (ys : List X) → AllByRecursion P (xs ++ x ∷ ys) → P x
  each_at_middle xs x ys each = (each_of_rest xs (x ∷ ys) each).0

  -- of each, so of the one with this number
  pub each_at_number : (xs : List X) (i : ℕ) (x : X) → slice_get xs i ≡ Some x → AllByRecursion P xs
      → P x
  each_at_number [] i x found each = absurd cc
  each_at_number (y ∷ xs) zero x found each = let same : y ≡ x = cc in subst P same each.0
  each_at_number (y ∷ xs) (suc i) x found each = each_at_number xs i x found each.1

  -- the same, for a number that is below the length
  pub each_at_place : (xs : List X) (i : ℕ) (d : X) → i < length xs → AllByRecursion P xs
      → P (get_or xs i d)
  each_at_place [] i d within each = absurd (omega (arith, within))
  each_at_place (x ∷ xs) zero d within each = each.0
  each_at_place (x ∷ xs) (suc i) d within each = each_at_place xs i d (omega (arith, within)) each.1

  -- of each of the first so many
  pub each_of_taken : (n : ℕ) (xs : List X) → AllByRecursion P xs → AllByRecursion P (take n xs)
  each_of_taken zero xs each = tt
  each_of_taken (suc n) [] each = tt
  each_of_taken (suc n) (x ∷ xs) each = (each.0, each_of_taken n xs each.1)

  -- of each behind the first so many
  pub each_of_dropped : (n : ℕ) (xs : List X) → AllByRecursion P xs → AllByRecursion P (drop n xs)
  each_of_dropped zero xs each = each
  each_of_dropped (suc n) [] each = tt
  each_of_dropped (suc n) (x ∷ xs) each = each_of_dropped n xs each.1

  -- where one is put in the place of another
  pub each_of_set : (xs : List X) (i : ℕ) (x : X) → AllByRecursion P xs → P x
      → AllByRecursion P (slice_set xs i x)
  each_of_set [] zero x each new = tt
  each_of_set [] (suc i) x each new = tt
  each_of_set (y ∷ xs) zero x each new = (new, each.1)
  each_of_set (y ∷ xs) (suc i) x each new = (each.0, each_of_set xs i x each.1 new)

  -- where one is taken out
  pub each_of_removed : (xs : List X) (i : ℕ) → AllByRecursion P xs → AllByRecursion P (remove xs i)
  each_of_removed [] zero each = tt
  each_of_removed [] (suc i) each = tt
  each_of_removed (x ∷ xs) zero each = each.1
  each_of_removed (x ∷ xs) (suc i) each = (each.0, each_of_removed xs i each.1)

  -- of each that a function makes
  pub each_of_mapped : {Y : Type 0} (f : Y → X) (ys : List Y) → AllByRecursion (λ y. P (f y)) ys
      → AllByRecursion P (map f ys)
  each_of_mapped f [] each = tt
  each_of_mapped f (y ∷ ys) each = (each.0, each_of_mapped f ys each.1)

-- what `All` says of each of both lists, it says of each of the first
pub all_of_front : {X : Type 0} (P : X → Type 0) (xs ys : List X) → All P (xs ++ ys) → All P xs
all_of_front P xs ys all = subst (All P) (take_at xs ys (length xs) refl) (All-take P (length xs) (xs ++ ys) all)
