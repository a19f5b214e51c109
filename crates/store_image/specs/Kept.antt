-- What a directory and the rows of its segments have to satisfy, apart from the bytes of a disk.
use Rattle.std.specs.Prelude.{◌≡◌, ℕ, List, [], ◌∷◌, length, sum_by, All}
use Rattle.std.specs.List.{AllZip}
use Rattle.rf2_values.specs.declared.row.Kind.{Kind}
use Rattle.rf2_values.specs.declared.row.Kind.TheVariants as kinds
use Rattle.rf2_values.specs.Row.{kind_of}
use Rattle.history_model.specs.declared.stamped.StampedRow.{StampedRow}
use Rattle.history_model.specs.History.{History, IsHistory}
use Rattle.history_model.specs.Lists.{AreLists, listed}
use Rattle.blocks.specs.Extents.{start_of}
use Rattle.checksum.specs.Crc32c.{crc32c}
use Rattle.directory.specs.declared.entry.Entry.{Entry}
use Rattle.directory.specs.declared.layout.Layout.{Layout}
use Rattle.directory.specs.declared.layout.Layout.TheVariants as layouts
use Rattle.directory.specs.Places.{extent_of}
use Rattle.directory.specs.Listings.{DirectoryValue, HasSumOf, IsListing, form_in, form_of, sums_of}
use Rattle.directory.specs.Content.{Lists}
use Rattle.segment.specs.Records.{IsSegment, segment_in, segment_of}

-- the segment of these rows has as many bytes and rows as the entry says
pub record IsSegmentOf (entry : Entry) (rows : List StampedRow) : Type 0 where
  pub is : IsSegment rows (segment_of rows)
  pub bytes : length (segment_of rows) ≡ entry.bytes
  pub count : length rows ≡ entry.rows

-- the bytes of a segment of these rows, with the checksums that its entry says
abbrev pub segment_with : Entry → List StampedRow → List ℕ
segment_with entry rows = segment_in (form_in entry.sums) rows

-- the entry of a new segment of these rows in a layout, from block `first` on
abbrev pub entry_at : Layout → ℕ → List StampedRow → Entry
entry_at layout first rows = record {
  first = first;
  bytes = length (segment_of rows);
  rows = length rows;
  sums = sums_of layout (crc32c (segment_in (form_of layout) rows));
}

-- the total length of the listed segments
abbrev pub bytes_listed : List Entry → ℕ
bytes_listed entries = sum_by (λ entry. entry.bytes) entries

-- the lists have the rows of the entries' segments, one list for each entry
abbrev pub AreSegments : List Entry → List (List StampedRow) → Type 0
AreSegments entries lists = AllZip IsSegmentOf entries lists

-- the entries' checksums of whole segments are those of the bytes
abbrev pub AreSummed : List Entry → List (List StampedRow) → Type 0
AreSummed entries lists =
    AllZip (λ entry rows. HasSumOf entry.sums (segment_with entry rows)) entries lists

-- the layout has rows of this kind: concrete values from layout 2 on, members from layout 3 on
abbrev pub HasKind : Layout → Kind → Type 0
HasKind layouts.One kinds.Concrete = ⊥
HasKind layouts.One kinds.Member = ⊥
HasKind layouts.One kind = Unit {0}
HasKind layouts.Two kinds.Member = ⊥
HasKind layouts.Two kind = Unit {0}
HasKind layouts.Three kind = Unit {0}

-- the layout has the kinds of all the rows
abbrev pub AreOfLayout : Layout → List StampedRow → Type 0
AreOfLayout layout rows = All (λ s. HasKind layout (kind_of s.row)) rows

-- the segments' bytes, each at the offset that its entry says
abbrev pub pieces_of : List Entry → List (List StampedRow) → List (ℕ × List ℕ)
pieces_of [] lists = []
pieces_of (entry ∷ entries) [] = []
pieces_of (entry ∷ entries) (rows ∷ lists) =
    (start_of (extent_of entry), segment_with entry rows) ∷ pieces_of entries lists

-- the history of all lists' rows, with the directory's number of imports
abbrev pub history_of : DirectoryValue → List (List StampedRow) → History
history_of d lists = record { imports = d.imports; rows = listed lists }

-- a directory, and the rows of the segments that it lists: no key is in two segments, the rows are
-- a history, and the layout has their kinds
pub record IsKept (d : DirectoryValue) (lists : List (List StampedRow)) : Type 0 where
  pub listing : IsListing d
  pub segments : AreSegments d.entries lists
  pub apart : AreLists lists
  pub history : IsHistory (history_of d lists)
  pub kinds : All (AreOfLayout d.layout) lists

-- the content block lists the directory, whose checksums are those of the segments
pub record IsContentOf (content : List ℕ) (d : DirectoryValue) (lists : List (List StampedRow))
    : Type 0 where
  pub lists_it : Lists content d
  pub kept : IsKept d lists
  pub sums : AreSummed d.entries lists
