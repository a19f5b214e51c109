-- Definitions for private functions and proofs, of this crate or of one above it. No public clause
-- cites them.
use Rattle.std.specs.Prelude.{◌≡◌, ℕ, ◌+◌, ◌*◌, ◌<◌, ◌≤◌, List, length, slice_index, ◌≢◌, ◌⊎◌, [], ◌∷◌, ◌&&◌}
use Rattle.std.specs.Prelude.{Bool, nat_le, nat_lt, Option, Some, None}
use Rattle.lru.specs.LruCache.{LruCache}
use Rattle.blocks.specs.Cache.{LooksUp}

-- the file begins with `n` bytes that are all zero
pub record BeginsWithZeros (n : ℕ) (file : List ℕ) : Type 0 where
  pub long : n ≤ length file
  pub zeros : (i : ℕ) → i < n → slice_index file i ≡ 0

-- these bytes, written at a gate, close it: a zero if a read returns the gate as open, and none if
-- it returns it as closed
abbrev pub Closes : ℕ → List ℕ → List ℕ → Type 0
Closes at now bytes =
    ((bytes ≡ []) × (slice_index now at ≢ 165)) ⊎ ((bytes ≡ 0 ∷ []) × (slice_index now at ≡ 165))

-- the block is `from` or a later one, and before `end` if that is given
abbrev pub is_within : ℕ → Option ℕ → ℕ → Bool
is_within from None block = nat_le from block
is_within from (Some end) block = nat_le from block && nat_lt block end

-- one block was looked up: how the cache changed, and how many bytes were requested from the disk
pub record IsLookUp (block : ℕ) (old new : LruCache ℕ (List ℕ)) (before after : ℕ) : Type 0 where
  pub missing : ℕ
  pub looks_up : LooksUp block missing old new
  pub asked : after ≤ before + 4096 * missing
