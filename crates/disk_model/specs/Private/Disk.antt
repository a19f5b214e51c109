-- Definitions that complete those of `Disk`. No public clause cites them.
use Rattle.std.specs.Prelude.{◌≡◌, ℕ, ◌<◌, List, length, slice_index}

-- below offset `n`, each byte that `c` has is that of `d`; `c` may be shorter
pub record SameBelow (n : ℕ) (d c : List ℕ) : Type 0 where
  pub each : (i : ℕ) → i < n → i < length c → slice_index c i ≡ slice_index d i
