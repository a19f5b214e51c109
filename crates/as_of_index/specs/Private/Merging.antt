-- Definitions that complete those of `Merging`. No public clause cites them.
use Rattle.std.specs.Prelude.{◌≡◌, ◌≤◌, ℕ, List, Some, slice_get}
use Rattle.as_of_index.specs.Merging.{PostingKind}

-- posting `i` of this list comes next: it exists, and posting `j` of the other list, if that
-- exists, isn't below it
pub record ComesNext {X : Type 0} (kind : PostingKind X) (own : List X) (i : ℕ) (other : List X)
    (j : ℕ) : Type 0 where
  pub x : X
  pub there : slice_get own i ≡ Some x
  pub least : (y : X) → slice_get other j ≡ Some y → kind.rank x ≤ kind.rank y
