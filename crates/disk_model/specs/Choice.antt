-- Which image of a moment is chosen.
use Rattle.std.specs.Prelude.{◌≡◌, ◌⊎◌, ℕ, ◌<◌, ◌≤◌, List, length, take, slice_index, All}
use Rattle.disk_model.specs.Disk.{DiskState, IsOutside}
use Rattle.disk_model.specs.declared.choice.Choice.{Choice}
use Rattle.disk_model.specs.declared.choice.Choice.TheVariants.{Kept, Lost, Filled}

-- a position is unsynced: it was written since the last sync, or isn't below the smallest length
-- since then
abbrev pub IsUnsynced : DiskState → ℕ → Type 0
IsUnsynced s i = (¬ (All (IsOutside i) s.unsynced)) ⊎ (s.least ≤ i)

-- the bytes that a read returns, with one byte at each unsynced position
pub record IsFilled (s : DiskState) (byte : ℕ) (image : List ℕ) : Type 0 where
  pub as_long : length image ≡ length s.now
  pub unsynced : (i : ℕ) → i < length s.now → IsUnsynced s i → slice_index image i ≡ byte
  pub fixed : (i : ℕ) → i < s.least → All (IsOutside i) s.unsynced
      → slice_index image i ≡ slice_index s.now i

-- the chosen image of a state
abbrev pub IsChosen : DiskState → Choice → List ℕ → Type 0
IsChosen s Kept image = image ≡ s.now
IsChosen s Lost image = image ≡ take s.least s.durable
IsChosen s (Filled byte) image = IsFilled s byte image
