-- How many items of a list pass a test, where those that pass stand before those that don't.
use Rattle.std.proofs.Common.{◌≡◌, ℕ, zero, suc, ◌+◌, ◌≤◌, Bool, false, List, [], ◌∷◌, length, refl, ap, ◌∙◌, arith}
use Rattle.std.specs.Prelude.{cond}
use Rattle.std.specs.List.{AllByRecursion, count_by}
use Rattle.std.proofs.lemmas.List.Sums.{sum_by-cons}
use Rattle.as_of_index.specs.Private.Search.{SplitsAt}

module _ {X : Type 0} (p : X → Bool) where
  none_pass : (xs : List X) → AllByRecursion (λ x. p x ≡ false) xs → count_by p xs ≡ 0
  none_pass [] all = refl
  none_pass (x ∷ xs) all =
      let first : count_by p (x ∷ xs) ≡ 0 + count_by p xs = sum_by-cons (λ y. cond (p y) 1 0) x xs ∙ ap (λ b. cond b 1 0 + count_by p xs) all.0 in
      let others = none_pass xs all.1 in
      omega (arith, first, others)

  pub count_at : (xs : List X) (i : ℕ) → i ≤ length xs → SplitsAt p xs i → i ≡ count_by p xs
  count_at xs zero le split = let none = none_pass xs split.rest in omega (arith, none)
  count_at [] (suc i) le split = absurd (omega arith)
  count_at (x ∷ xs) (suc i) le split =
      let one : count_by p (x ∷ xs) ≡ 1 + count_by p xs = sum_by-cons (λ y. cond (p y) 1 0) x xs ∙ ap (λ b. cond b 1 0 + count_by p xs) split.before.0 in
      let more = count_at xs i (omega arith) (record { before = split.before.1; rest = split.rest }) in
      omega (arith, one, more)
