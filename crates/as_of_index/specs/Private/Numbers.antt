-- Definitions that complete those of `Numbers`. No public clause cites them.
use Rattle.std.specs.Prelude.{◌≡◌, ℕ, List, Some, slice_get}
use Rattle.std.specs.declared.cmp.Ordering.TheVariants.{Less}
use Rattle.segment.specs.declared.place.RowPlace.{RowPlace}
use Rattle.as_of_index.specs.Places.{place_cmp}

-- place `i` of a list exists, and is less than place `j` of the other list, if that exists
pub record ComesBefore (own : List RowPlace) (i : ℕ) (other : List RowPlace) (j : ℕ)
    : Type 0 where
  pub p : RowPlace
  pub there : slice_get own i ≡ Some p
  pub below : (q : RowPlace) → slice_get other j ≡ Some q → place_cmp p q ≡ Less
