-- The state of a copy while it is written.
use Rattle.std.specs.Prelude.{◌≡◌, ℕ, ◌+◌, Option, Result, Ok, Err, ◌^◌, ◌<◌, ◌≤◌}
use Rattle.std.specs.Prelude.{List, [], ◌∷◌, ◌++◌, length}
use Rattle.std.specs.Int.{div_ceil}
use Rattle.std.specs.List.{AllByRecursion}
use Rattle.blocks.specs.declared.extent.Extent.{Extent}
use Rattle.checksum.specs.Crc32c.{crc32c}
use Rattle.checksum.specs.declared.form.Form.{Form}
use Rattle.directory.specs.declared.entry.Entry.{Entry}
use Rattle.directory.specs.declared.layout.Layout.{Layout}
use Rattle.blocks.specs.Extents.{block_limit, start_of}
use Rattle.directory.specs.Places.{extent_of}
use Rattle.directory.specs.Listings.{DirectoryValue, most_entries, number_of, sums_of}
use Rattle.history_model.specs.declared.stamped.StampedRow.{StampedRow}
use Rattle.segment.specs.Records.{segment_of, segment_in}
use Rattle.store_image.specs.Ahead.{BeginsWith}
use Rattle.store_image.specs.Kept.{IsKept, IsSegmentOf, segment_with}
use Rattle.store_image.specs.Pieces.{Holds}
use Rattle.fault_counts.specs.Counting.{CountsDiskFault, HasRisen}
use Rattle.fault_counts.specs.declared.fault.ReadFault.TheVariants as reading
use Rattle.store_image.specs.declared.fault.Damage.TheVariants as damages
use Rattle.store_copy.specs.Copying.{chosen, end_from, lists_up_to}
use Rattle.store_copy.specs.declared.fault.CopyFault.{CopyFault}
use Rattle.store_copy.specs.declared.fault.CopyFault.TheVariants as faults
use Rattle.store_copy.specs.declared.fault.SegmentCopyFault.{SegmentCopyFault}
use Rattle.store_copy.specs.declared.fault.SegmentCopyFault.TheVariants.{Read, Write}
use Rattle.store_copy.specs.declared.planning.Size.{Size}

-- as many imports as asked for, or all, if the store has as many
abbrev pub IsChosen : Result ℕ CopyFault → Option ℕ → ℕ → Type 0
IsChosen (Ok n) asked all = (n ≡ chosen asked all) × (n ≤ all)
IsChosen (Err e) asked all = (e ≡ faults.NoSuchImport) × (all < chosen asked all)

-- the layout asked for, or the store's, if that isn't above it
abbrev pub IsChosenLayout : Result Layout CopyFault → Option Layout → Layout → Type 0
IsChosenLayout (Ok layout) in_layout own =
    (layout ≡ chosen in_layout own) × (number_of own ≤ number_of layout)
IsChosenLayout (Err e) in_layout own =
    (e ≡ faults.LowerLayout) × (number_of (chosen in_layout own) < number_of own)

-- the rows are few and short enough for a segment
abbrev pub MayBeSegment : List StampedRow → Type 0
MayBeSegment rows = (length (segment_of rows) < 2 ^ 32) × (length rows < 2 ^ 32)

-- the entry of a segment with this many bytes and rows, from block `first` on, all of whose bytes
-- have this CRC-32C
abbrev pub next_entry : Layout → ℕ → Size → ℕ → Entry
next_entry layout first size crc =
    record { first = first; bytes = size.bytes; rows = size.rows; sums = sums_of layout crc }

-- the entry is that of a segment of these rows, from block `first` on, whatever its checksum is
pub record IsEntryFrom (layout : Layout) (first : ℕ) (rows : List StampedRow) (entry : Entry)
    : Type 0 where
  pub first_is : entry.first ≡ first
  pub bytes_are : entry.bytes ≡ length (segment_of rows)
  pub rows_are : entry.rows ≡ length rows
  pub crc : ℕ
  pub crc_fits : crc < 2 ^ 32
  pub sums_are : entry.sums ≡ sums_of layout crc

-- the entries are those of segments of these rows, one directly after the other
abbrev pub AreEntriesFrom : Layout → ℕ → List (List StampedRow) → List Entry → Type 0
AreEntriesFrom layout first [] [] = Unit {0}
AreEntriesFrom layout first [] (entry ∷ entries) = ⊥
AreEntriesFrom layout first (rows ∷ lists) [] = ⊥
AreEntriesFrom layout first (rows ∷ lists) (entry ∷ entries) = IsEntryFrom layout first rows entry
    × AreEntriesFrom layout (first + div_ceil (length (segment_of rows)) 4096) lists entries

-- the directory of a copy of the first `n` imports of these segments, of which none is listed yet
pub record IsBlank (copy : DirectoryValue) (layout : Layout) (n : ℕ) : Type 0 where
  pub layout_is : copy.layout ≡ layout
  pub epoch_is : copy.epoch ≡ 2
  pub imports_are : copy.imports ≡ n
  pub none : copy.entries ≡ []

-- a directory may list the segments of a copy of the first `n` imports of these segments
pub record MayBeListed (layout : Layout) (n : ℕ) (lists : List (List StampedRow)) : Type 0 where
  pub imports : n < 2 ^ 32
  pub few : length lists ≤ most_entries layout
  pub small : AllByRecursion MayBeSegment lists
  pub fits : end_from 4 (lists_up_to n lists) ≤ block_limit

-- the directory and the rows of a store, and what is planned of its copy: its layout and its
-- imports, and a directory in which nothing is listed yet
pub record IsPlanned (asked : Option ℕ) (in_layout : Option Layout) (d : DirectoryValue)
    (lists : List (List StampedRow)) (copy : DirectoryValue) : Type 0 where
  pub kept : IsKept d lists
  pub within : chosen asked d.imports ≤ d.imports
  pub not_lower : number_of d.layout ≤ number_of (chosen in_layout d.layout)
  pub blank : IsBlank copy (chosen in_layout d.layout) (chosen asked d.imports)
  pub listed : MayBeListed (chosen in_layout d.layout) (chosen asked d.imports) lists

-- the entry's extent in the file has the segment of these rows
abbrev pub IsSegmentAt : List ℕ → Entry → List StampedRow → Type 0
IsSegmentAt file entry rows =
    IsSegmentOf entry rows × Holds (start_of (extent_of entry), segment_with entry rows) file

-- the first bytes of the segment of these rows are in the extent, and have this CRC-32C; the others
-- are pending
pub record ArePending (form : Form) (extent : Extent) (rows : List StampedRow) (written crc : ℕ)
    (bytes file : List ℕ) : Type 0 where
  pub front : List ℕ
  pub front_is : length front ≡ written
  pub summed : crc ≡ crc32c front
  pub there : BeginsWith extent front file
  pub all : front ++ bytes ≡ segment_in form rows

-- the fault of a copy that fails at the segment with this number
abbrev pub in_segment : ℕ → SegmentCopyFault → CopyFault
in_segment number (Read reading.OutOfMemory) = faults.OutOfMemory
in_segment number (Read reading.DiskFault) = faults.SourceFailed
in_segment number (Read reading.Damaged) = faults.Damaged (damages.Segment number)
in_segment number Write = faults.TargetFailed

-- a disk failed, or memory ran out
abbrev pub IsNoDamage : SegmentCopyFault → Type 0
IsNoDamage (Read reading.OutOfMemory) = Unit {0}
IsNoDamage (Read reading.DiskFault) = Unit {0}
IsNoDamage (Read reading.Damaged) = ⊥
IsNoDamage Write = Unit {0}

-- the count of a disk's failures has risen if it failed, and otherwise is unchanged
abbrev pub CountsRead : SegmentCopyFault → ℕ → ℕ → Type 0
CountsRead (Read fault) old new = CountsDiskFault fault old new
CountsRead Write old new = new ≡ old

abbrev pub CountsWrite : SegmentCopyFault → ℕ → ℕ → Type 0
CountsWrite (Read fault) old new = new ≡ old
CountsWrite Write old new = HasRisen old new
