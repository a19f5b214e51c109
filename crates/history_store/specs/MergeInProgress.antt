-- A merge in progress: memory has the index of the rows merged so far, and the disk, as reads
-- return it, has their records in the output's extent.
use Rattle.std.specs.Prelude.{◌≡◌, ℕ, ◌<◌, Bool, false, List, length, Option, Some, None}
use Rattle.std.specs.Prelude.{slice_get}
use Rattle.std.specs.List.{AllByRecursion}
use Rattle.history_model.specs.declared.stamped.StampedRow.{StampedRow}
use Rattle.history_model.specs.Lists.{union}
use Rattle.directory.specs.declared.entry.Entry.{Entry}
use Rattle.directory.specs.Listings.{DirectoryValue, HasForm, IsEntry, form_in}
use Rattle.directory.specs.Places.{AreBeside, extent_of, extents_of}
use Rattle.checksum.specs.Crc32c.{crc32c}
use Rattle.segment.specs.Records.{segment_in}
use Rattle.segment_index.specs.declared.words.Words.{Words}
use Rattle.segment_index.specs.Output.{OutputRows, taken_rows, left_count}
use Rattle.store_image.specs.Kept.{IsSegmentOf}
use Rattle.store_image.specs.Ahead.{BeginsWith}
use Rattle.history_store.specs.declared.merge_in_progress.MergeInProgress.{MergeInProgress}
use Rattle.history_store.specs.Catalog.{Merge}

-- what the catalog says of a merge in progress
abbrev pub merge_of : Option MergeInProgress → Option Merge
merge_of None = None
merge_of (Some m) =
    Some (record {
      i = m.i;
      j = m.j;
      output = extent_of m.entry;
      left = left_count m.output;
    })

-- The output will have the rows of both lists. Its extent shares no block with a listed segment.
pub record IsMergeOf (d : DirectoryValue) (lists : List (List StampedRow)) (i j : ℕ)
    (entry : Entry) (output : OutputRows) : Type 0 where
  pub below : i < j
  pub within : j < length d.entries
  pub a_is : slice_get lists i ≡ Some output.a
  pub b_is : slice_get lists j ≡ Some output.b
  pub segment : IsSegmentOf entry (union output.a output.b)
  pub is_entry : IsEntry entry
  pub has_form : HasForm d.layout entry
  pub beside : AllByRecursion (AreBeside (extent_of entry)) (extents_of d.entries)

-- a merge in progress is one of two listed segments
abbrev pub IsMergingOf : DirectoryValue → List (List StampedRow) → Option MergeInProgress → Type 0
IsMergingOf d lists None = Unit {0}
IsMergingOf d lists (Some m) = IsMergeOf d lists m.i m.j m.entry m.output

-- a read returns what was written of the output; a crash may still lose it
abbrev pub IsWritten : Option MergeInProgress → List ℕ → Type 0
IsWritten None now = Unit {0}
IsWritten (Some m) now =
    BeginsWith (extent_of m.entry) (segment_in (form_in m.entry.sums) (taken_rows m.output)) now

-- the running checksum is that of what was written of the output
abbrev pub IsSummed : Option MergeInProgress → Type 0
IsSummed None = Unit {0}
IsSummed (Some m) = m.crc ≡ crc32c (segment_in (form_in m.entry.sums) (taken_rows m.output))

-- the output keeps words if the store does
abbrev pub HasSameWords : Words → Option MergeInProgress → Type 0
HasSameWords words None = Unit {0}
HasSameWords words (Some m) = m.output.words ≡ words

-- A merge in progress is one of two of these segments. As long as no call has failed, a read
-- returns what was written of its output, and the running checksum is that of these bytes.
pub record HasMerge (honest : Type 0) (now : List ℕ) (d : DirectoryValue)
    (lists : List (List StampedRow)) (merge : Option MergeInProgress) (needs_reopen : Bool)
    : Type 0 where
  pub merging : IsMergingOf d lists merge
  pub written : honest → needs_reopen ≡ false → IsWritten merge now
  pub summed : honest → needs_reopen ≡ false → IsSummed merge
