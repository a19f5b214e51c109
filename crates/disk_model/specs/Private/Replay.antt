-- The state of a replay of the record.
use Rattle.std.specs.Prelude.{◌≡◌, ◌↔◌, ℕ, ◌<◌, List, length, slice_index, All}
use Rattle.disk_model.specs.Disk.{DiskState, IsOutside}
use Rattle.disk_model.specs.declared.memory.replay.Replay.{Replay}

-- the replay has everything that the images of a state depend on
pub record Shows (r : Replay) (s : DiskState) : Type 0 where
  pub now : r.now.items ≡ s.now
  pub durable : r.durable.items ≡ s.durable
  pub least : r.least ≡ s.least
  pub unsynced : (i : ℕ) → All (IsOutside i) r.unsynced.items ↔ All (IsOutside i) s.unsynced

-- the ranges were filled with this byte, and nothing else changed
pub record IsFilledIn (ranges : List (ℕ × ℕ)) (byte : ℕ) (old new : List ℕ) : Type 0 where
  pub inside : (i : ℕ) → i < length old → ¬ (All (IsOutside i) ranges) → slice_index new i ≡ byte
  pub outside : (i : ℕ) → All (IsOutside i) ranges → slice_index new i ≡ slice_index old i
