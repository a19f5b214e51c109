-- The result of a copy, and what it leaves on the target disk.
use Rattle.std.specs.Prelude.{◌≡◌, ◌⊎◌, ℕ, ◌+◌, ◌*◌, ◌<◌, ◌≤◌, Option, List, length, Result, Ok, Err}
use Rattle.fault_counts.specs.Counting.{HasRisen}
use Rattle.disk_model.specs.Disk.{DiskState, Moments}
use Rattle.blocks.specs.Extents.{block_limit}
use Rattle.blocks.specs.Slots.{slots_read}
use Rattle.blocks.specs.declared.slots.Slot.{Slot}
use Rattle.blocks.specs.declared.slots.Slot.TheVariants.{A}
use Rattle.history_model.specs.declared.stamped.StampedRow.{StampedRow}
use Rattle.directory.specs.declared.layout.Layout.{Layout}
use Rattle.directory.specs.Listings.{DirectoryValue, number_of}
use Rattle.store_image.specs.declared.fault.LoadFault.{LoadFault}
use Rattle.store_image.specs.declared.fault.LoadFault.TheVariants as loading
use Rattle.store_image.specs.declared.fault.MakeFault.{MakeFault}
use Rattle.store_image.specs.declared.fault.MakeFault.TheVariants as making
use Rattle.store_image.specs.Answers.{IsNotOpened}
use Rattle.store_image.specs.Kept.{IsKept, bytes_listed}
use Rattle.store_image.specs.OnDisk.{HasStore, IsOnDisk}
use Rattle.store_copy.specs.declared.fault.CopyFault.{CopyFault}
use Rattle.store_copy.specs.declared.fault.CopyFault.TheVariants as faults
use Rattle.store_copy.specs.Copying.{chosen, copied_listing, end_from, lists_up_to}

-- the fault if the target isn't empty, or failed
abbrev pub of_making : MakeFault → CopyFault
of_making making.OutOfMemory = faults.OutOfMemory
of_making making.DiskFault = faults.TargetFailed
of_making making.NotEmpty = faults.NotEmpty

-- the fault if the source can't be loaded
abbrev pub of_loading : LoadFault → CopyFault
of_loading loading.OutOfMemory = faults.OutOfMemory
of_loading loading.DiskFault = faults.SourceFailed
of_loading loading.NotAStore = faults.NotAStore
of_loading (loading.Damaged damage) = faults.Damaged damage

-- the store that a file has: its current slot, its directory, and the rows of its segments
pub record Shown (file : List ℕ) : Type 0 where
  pub slot : Slot
  pub directory : DirectoryValue
  pub lists : List (List StampedRow)
  pub is : HasStore slot directory lists file

-- how many imports of the store are copied
abbrev pub imports_of : {file : List ℕ} → Option ℕ → Shown file → ℕ
imports_of asked of = chosen asked of.directory.imports

-- the layout of its copy
abbrev pub layout_of : {file : List ℕ} → Option Layout → Shown file → Layout
layout_of in_layout of = chosen in_layout of.directory.layout

-- it has the imports that are asked for
abbrev pub HasImports : {file : List ℕ} → Option ℕ → Shown file → Type 0
HasImports asked of = imports_of asked of ≤ of.directory.imports

-- the layout that is asked for isn't below its own
abbrev pub IsNotLower : {file : List ℕ} → Option Layout → Shown file → Type 0
IsNotLower in_layout of = number_of of.directory.layout ≤ number_of (layout_of in_layout of)

-- the directory of a copy of it
abbrev pub copy_of : {file : List ℕ} → Option ℕ → Option Layout → Shown file → DirectoryValue
copy_of asked in_layout of = copied_listing (layout_of in_layout of) (imports_of asked of) of.lists

-- the rows of the copy's segments
abbrev pub lists_of : {file : List ℕ} → Option ℕ → Shown file → List (List StampedRow)
lists_of asked of = lists_up_to (imports_of asked of) of.lists

-- the bytes are a copy of the store in the file, with as many imports as asked for, or all, in the
-- layout asked for, or its own
pub record IsCopyOf (asked : Option ℕ) (in_layout : Option Layout) (file c : List ℕ)
    : Type 0 where
  pub of : Shown file
  pub within : HasImports asked of
  pub not_lower : IsNotLower in_layout of
  pub is : HasStore A (copy_of asked in_layout of) (lists_of asked of) c

-- every image that a crash may leave is such a copy, with this directory
pub record HasCopy (asked : Option ℕ) (in_layout : Option Layout) (file : List ℕ)
    (copy : DirectoryValue) (state : DiskState) : Type 0 where
  pub of : Shown file
  pub within : HasImports asked of
  pub not_lower : IsNotLower in_layout of
  pub copy_is : copy ≡ copy_of asked in_layout of
  pub on_disk : IsOnDisk state A copy (lists_of asked of)

-- What was read of a source for a copy: a directory, and the rows of its segments, which on an honest
-- disk are those of the store in the file. The slots were read, and each byte of the segments twice,
-- at most.
pub record IsReadTwice (honest : Type 0) (file : List ℕ) (copy : DirectoryValue) (before after : ℕ)
    : Type 0 where
  pub directory : DirectoryValue
  pub lists : List (List StampedRow)
  pub kept : IsKept directory lists
  pub within : copy.imports ≤ directory.imports
  pub is : honest → (slot : Slot) × HasStore slot directory lists file
  pub reads : after ≤ before + slots_read + 2 * bytes_listed directory.entries

-- Why a store couldn't be copied: the first reason, in the order in which they stand here, in which
-- all disks that don't fail are looked at: the target isn't empty; the source isn't a store, or is
-- damaged; it has fewer imports; its layout is above the one asked for; the copy is too large.
abbrev pub IsNotCopied : CopyFault → Option ℕ → Option Layout → List ℕ → List ℕ → Type 0
IsNotCopied faults.OutOfMemory asked in_layout file target = Unit {0}
IsNotCopied faults.SourceFailed asked in_layout file target = Unit {0}
IsNotCopied faults.TargetFailed asked in_layout file target = Unit {0}
IsNotCopied faults.NotEmpty asked in_layout file target = 1 ≤ length target
IsNotCopied faults.NotAStore asked in_layout file target =
    (length target ≡ 0) × IsNotOpened loading.NotAStore file
IsNotCopied (faults.Damaged damage) asked in_layout file target =
    (length target ≡ 0) × IsNotOpened (loading.Damaged damage) file
IsNotCopied faults.NoSuchImport asked in_layout file target =
    (length target ≡ 0) × ((of : Shown file) × (of.directory.imports < imports_of asked of))
IsNotCopied faults.LowerLayout asked in_layout file target =
    (length target ≡ 0) × ((of : Shown file) × HasImports asked of
    × (number_of (layout_of in_layout of) < number_of of.directory.layout))
IsNotCopied faults.NoRoom asked in_layout file target =
    (length target ≡ 0) × ((of : Shown file) × HasImports asked of × IsNotLower in_layout of
    × (block_limit < end_from 4 (lists_of asked of)))

-- a disk failed, or memory ran out
abbrev pub IsFailure : CopyFault → Type 0
IsFailure faults.OutOfMemory = Unit {0}
IsFailure faults.SourceFailed = Unit {0}
IsFailure faults.TargetFailed = Unit {0}
IsFailure other = ⊥

-- after a refusal for another reason, nothing changed
abbrev pub StaysUnlessFailed : {X : Type 0} → Result X CopyFault → Moments → Moments → Type 0
StaysUnlessFailed (Ok copy) old new = Unit {0}
StaysUnlessFailed (Err e) old new = IsFailure e ⊎ (new ≡ old)

-- the count of a disk's failures has risen if it failed, and otherwise is unchanged
abbrev pub CountsSource : CopyFault → ℕ → ℕ → Type 0
CountsSource faults.SourceFailed old new = HasRisen old new
CountsSource other old new = new ≡ old

abbrev pub CountsTarget : CopyFault → ℕ → ℕ → Type 0
CountsTarget faults.TargetFailed old new = HasRisen old new
CountsTarget other old new = new ≡ old
