-- Definitions that complete those of `Damage`. No public clause cites them.
use Rattle.std.specs.Prelude.{ℕ, ◌+◌, ◌≤◌, List, length, take}
use Rattle.directory.specs.declared.entry.Entry.{Entry}
use Rattle.store_image.specs.declared.fault.Damage.TheVariants as damages
use Rattle.store_image.specs.declared.fault.LoadFault.{LoadFault}
use Rattle.store_image.specs.declared.fault.LoadFault.TheVariants as loading
use Rattle.store_image.specs.declared.fault.RowsFault.{RowsFault}
use Rattle.store_image.specs.declared.fault.RowsFault.TheVariants as faults
use Rattle.store_image.specs.Kept.{bytes_listed}
use Rattle.store_image.specs.Damage.{IsFirstBroken, ShareKey}

-- why the segment can't be read, as a fault of a load
abbrev pub in_segment : ℕ → RowsFault → LoadFault
in_segment number faults.OutOfMemory = loading.OutOfMemory
in_segment number faults.DiskFault = loading.DiskFault
in_segment number faults.Damaged = loading.Damaged (damages.Segment number)

-- why the segments of the entries can't be read
abbrev pub AreNotRead : LoadFault → ℕ → List Entry → List ℕ → Type 0
AreNotRead loading.OutOfMemory imports entries file = Unit {0}
AreNotRead loading.DiskFault imports entries file = Unit {0}
AreNotRead (loading.Damaged (damages.Segment number)) imports entries file =
    IsFirstBroken number imports entries file
AreNotRead (loading.Damaged damages.SharedKey) imports entries file = ShareKey imports entries file
AreNotRead _ imports entries file = ⊥

-- if a segment is damaged, no byte of a later one was requested, and the length once for each
-- segment up to it
abbrev pub StopsIn : LoadFault → List Entry → (bytes_before bytes calls_before calls : ℕ) → Type 0
StopsIn loading.OutOfMemory entries bytes_before bytes calls_before calls = Unit {0}
StopsIn loading.DiskFault entries bytes_before bytes calls_before calls = Unit {0}
StopsIn loading.NotAStore entries bytes_before bytes calls_before calls = ⊥
StopsIn (loading.Damaged damages.Slots) entries bytes_before bytes calls_before calls = ⊥
StopsIn (loading.Damaged damages.Directory) entries bytes_before bytes calls_before calls = ⊥
StopsIn (loading.Damaged (damages.Segment number)) entries bytes_before bytes calls_before calls =
    (number ≤ length entries) × (bytes ≤ bytes_before + bytes_listed (take number entries))
    × (calls ≤ calls_before + number)
StopsIn (loading.Damaged damages.SharedKey) entries bytes_before bytes calls_before calls = Unit {0}
StopsIn (loading.Damaged damages.Kind) entries bytes_before bytes calls_before calls = ⊥
