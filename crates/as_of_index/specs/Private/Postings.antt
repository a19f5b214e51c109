-- Definitions that complete those of `Postings`. No public clause cites them.
use Rattle.std.specs.Prelude.{ℕ, ◌+◌, List, [], ◌∷◌, ◌++◌, map}

-- the items of all lists, each with the number of its list
abbrev pub numbered : {X : Type 0} → ℕ → List (List X) → List (ℕ × X)
numbered n [] = []
numbered n (xs ∷ lists) = map (λ x. (n, x)) xs ++ numbered (n + 1) lists
