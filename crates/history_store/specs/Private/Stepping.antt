-- What the functions of a merge step do. Only private functions cite these definitions.
use Rattle.std.specs.Prelude.{◌≡◌, ◌⊎◌, ℕ, ◌+◌, ◌≤◌, Bool, true, false, List, map}
use Rattle.std.specs.Prelude.{Some, Result, Ok, Err, MatchResult, if◌then◌else◌}
use Rattle.std.specs.List.{AllZip, sum_by}
use Rattle.disk_model.specs.Disk.{DiskState, Moments, followed_by, after_write, Fails}
use Rattle.lru.specs.LruCache.{LruCache}
use Rattle.blocks.specs.declared.slots.Slot.{Slot}
use Rattle.history_model.specs.declared.stamped.StampedRow.{StampedRow}
use Rattle.history_model.specs.InOrder.{IsAscending}
use Rattle.directory.specs.declared.entry.Entry.{Entry}
use Rattle.directory.specs.Listings.{DirectoryValue}
use Rattle.segment.specs.Standing.{StandsAt}
use Rattle.merge.specs.declared.Taken.{Taken}
use Rattle.as_of_index.specs.Places.{place_cmp}
use Rattle.segment_index.specs.Output.{left_count, with_more}
use Rattle.history_store.specs.declared.refusal.Refusal.{Refusal}
use Rattle.history_store.specs.declared.refusal.Refusal.TheVariants as refusals
use Rattle.history_store.specs.declared.merge_in_progress.MergeInProgress.{MergeInProgress}
use Rattle.store_image.specs.Private.Reading.{IsOfPlace}
use Rattle.history_store.specs.Private.Reading.{AreThere}
use Rattle.history_store.specs.StoreValue.{IsHeld}
use Rattle.history_store.specs.MergeInProgress.{HasMerge}

-- the row at the place, in the first or the second of the two lists
abbrev pub StandsIn : List (List StampedRow) → ℕ → ℕ → Taken → StampedRow → Type 0
StandsIn lists i j t s = StandsAt lists (if t.second then j else i) t.place s

-- the row has the key, the import number and the length of its place
abbrev pub IsReadAt : Taken → StampedRow → Type 0
IsReadAt t s = IsOfPlace s t.place

-- a store that is open, with this merge in progress
pub record IsReadyToStep (honest : Type 0) (state : DiskState) (cache : LruCache ℕ (List ℕ))
    (d : DirectoryValue) (lists : List (List StampedRow)) (m : MergeInProgress) : Type 0 where
  pub slot : Slot
  pub held : IsHeld honest state cache slot d lists false
  pub merge : HasMerge honest state.now d lists (Some m) false

-- the places are in ascending order of their keys
abbrev pub AreAscending : List Taken → Type 0
AreAscending taken = IsAscending place_cmp (map (λ t. t.place) taken)

-- the total length of the records at these places, in bytes
abbrev pub bytes_at : List Taken → ℕ
bytes_at taken = sum_by (λ t. t.place.bytes) taken

-- the most bytes that are read for the rows at these places: those of their records, and two blocks
-- for each
abbrev pub cost_at : List Taken → ℕ
cost_at taken = sum_by (λ t. t.place.bytes + 8192) taken

-- the rows that a read returns on an honest disk: each is the row at its place
abbrev pub AreRead : List Entry → ℕ → ℕ → List ℕ → List Taken → List StampedRow → Type 0
AreRead entries i j file taken want = (lists : List (List StampedRow))
    × AreThere entries lists file × AllZip (StandsIn lists i j) taken want

-- why rows can't be read
abbrev pub IsUnread : Refusal → Type 0
IsUnread e = (e ≡ refusals.OutOfMemory) ⊎ (e ≡ refusals.DiskFault) ⊎ (e ≡ refusals.Damaged)

-- the call made one write of the bytes at this offset, which succeeded or failed
abbrev pub IsOneWrite : {T E : Type 0} → Result T E → ℕ → List ℕ → Moments → Moments → Type 0
IsOneWrite result at bytes old new = MatchResult result
    (λ _. new ≡ followed_by old (after_write old.state at bytes))
    (λ _. Fails old (after_write old.state at bytes) new)

-- whether the call failed because of the disk
abbrev pub is_fault : Result (Unit {0}) Refusal → Bool
is_fault (Err refusals.DiskFault) = true
is_fault _ = false

-- the fact holds, unless the disk failed
abbrev pub UnlessFault : Result (Unit {0}) Refusal → Type 0 → Type 0
UnlessFault (Err refusals.DiskFault) P = Unit {0}
UnlessFault _ P = P

-- the result of a step, and the merge after it
abbrev pub IsStepOf : Result (Unit {0}) Refusal → MergeInProgress → MergeInProgress → ℕ → Type 0
IsStepOf (Ok done) m next n =
    (crc : ℕ) × (next ≡ record m { output = with_more n m.output; crc = crc })
IsStepOf (Err e) m next n = IsUnread e × (1 ≤ n) × (1 ≤ left_count m.output) × (next ≡ m)
