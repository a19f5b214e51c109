-- Which bytes of the disk a store's calls write.
use Rattle.std.specs.Prelude.{◌≡◌, ℕ, ◌+◌, ◌-◌, min, List, [], ◌∷◌, ◌++◌, length, map, drop}
use Rattle.std.specs.Prelude.{Some, slice_get, Result, MatchResult}
use Rattle.std.specs.Option.{option_to_list}
use Rattle.disk_model.specs.Disk.{DiskState, Moments, followed_by, after_write, Fails}
use Rattle.disk_model.specs.Disk.{IsImage, SameBut}
use Rattle.blocks.specs.declared.extent.Extent.{Extent}
use Rattle.blocks.specs.Extents.{byte_range, start_of}
use Rattle.history_model.specs.declared.stamped.StampedRow.{StampedRow}
use Rattle.history_model.specs.InOrder.{Has, IsAscending}
use Rattle.history_model.specs.History.{History, stamped_cmp}
use Rattle.history_model.specs.Lists.{union}
use Rattle.directory.specs.declared.entry.Entry.{Entry}
use Rattle.directory.specs.Listings.{form_in, form_of}
use Rattle.directory.specs.Places.{extent_of, extents_of}
use Rattle.checksum.specs.declared.form.Form.{Form}
use Rattle.segment.specs.Records.{segment_in}
use Rattle.store_image.specs.Kept.{IsSegmentOf}
use Rattle.store_image.specs.Ahead.{BeginsWith}
use Rattle.history_store.specs.Catalog.{Merge, Catalog, reserved_by}

-- the segments that catalog `new` lists after those of `old`, and their byte ranges
abbrev pub added_entries : Catalog → Catalog → List Entry
added_entries old new = drop (length old.entries) new.entries

abbrev pub added_ranges : Catalog → Catalog → List (ℕ × ℕ)
added_ranges old new = map byte_range (extents_of (added_entries old new))

-- the bytes differ from an image that was possible before only in these ranges
abbrev pub StemsWithinAll : DiskState → List (ℕ × ℕ) → List ℕ → Type 0
StemsWithinAll s [] c = IsImage s c
StemsWithinAll s (range ∷ ranges) c =
    (d : List ℕ) × StemsWithinAll s ranges d × SameBut range.0 range.1 d c

-- the byte range that the merge in progress reserved
abbrev pub reserved_ranges : Catalog → List (ℕ × ℕ)
reserved_ranges catalog = map byte_range (option_to_list (reserved_by catalog.merge))

-- the segment with this number in the directory, from 0 on, consists of these rows, and a read
-- returns their records there
pub record HasRows (entries : List Entry) (number : ℕ) (rows : List StampedRow) (now : List ℕ)
    : Type 0 where
  pub entry : Entry
  pub entry_is : slice_get entries number ≡ Some entry
  pub segment : IsSegmentOf entry rows
  pub stands : BeginsWith (extent_of entry) (segment_in (form_in entry.sums) rows) now

-- The rows that a merge takes next, up to `n`. The rows taken before, these, and those left after
-- them are the rows of its two segments, in key order. The records of the rows taken before are
-- what is written of the output.
pub record AreNext (n : ℕ) (catalog : Catalog) (merge : Merge) (taken rows : List StampedRow)
    (now : List ℕ) : Type 0 where
  pub a : List StampedRow
  pub b : List StampedRow
  pub first : HasRows catalog.entries merge.i a now
  pub second : HasRows catalog.entries merge.j b now
  pub behind : BeginsWith merge.output (segment_in (form_of catalog.layout) taken) now
  pub left : List StampedRow
  pub all : taken ++ rows ++ left ≡ union a b
  pub ascending : IsAscending stamped_cmp (taken ++ rows ++ left)
  pub count : length rows ≡ min n merge.left
  pub count_left : length left ≡ merge.left - n

-- the state after the records of these rows, in this form, are written after those of the rows taken
-- before
abbrev pub after_part : Form → Extent → List StampedRow → List StampedRow → DiskState → DiskState
after_part form output taken rows state =
    after_write state (start_of output + length (segment_in form taken)) (segment_in form rows)

-- One write puts the records of the next rows, which are rows of the history, after those of the
-- rows taken before. After an error this write failed, or none was made.
pub record WritesNext {T E : Type 0} (result : Result T E) (n : ℕ) (catalog : Catalog) (h : History)
    (old new : Moments) : Type 0 where
  pub merge : Merge
  pub goes_on : catalog.merge ≡ Some merge
  pub taken : List StampedRow
  pub rows : List StampedRow
  pub next : AreNext n catalog merge taken rows old.state.now
  pub of_history : (s : StampedRow) → Has rows s → Has h.rows s
  pub write : MatchResult result
      (λ _. new ≡ followed_by old (after_part (form_of catalog.layout) merge.output taken rows
      old.state))
      (λ _. Fails old (after_part (form_of catalog.layout) merge.output taken rows old.state) new)
