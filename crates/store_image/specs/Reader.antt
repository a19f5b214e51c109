-- Reading the rows of a segment one after the other, through a buffer.
use Rattle.std.specs.Prelude.{◌≡◌, ℕ, ◌+◌, ◌<◌, ◌≤◌, List, length, take, drop}
use Rattle.blocks.specs.declared.extent.Extent.{Extent}
use Rattle.blocks.specs.Extents.{start_of}
use Rattle.directory.specs.declared.entry.Entry.{Entry}
use Rattle.directory.specs.Listings.{form_in}
use Rattle.directory.specs.Places.{extent_of}
use Rattle.store_image.specs.declared.segment_reader.SegmentReader.{SegmentReader}
use Rattle.store_image.specs.declared.window.Window.{Window}

-- the bytes of an extent, as far as the file has them
abbrev pub bytes_of : Extent → List ℕ → List ℕ
bytes_of extent file = take extent.bytes (drop (start_of extent) file)

-- the bytes of an entry's segment, as far as the file has them
abbrev pub segment_bytes : Entry → List ℕ → List ℕ
segment_bytes entry file = bytes_of (extent_of entry) file

-- the bytes in the window
abbrev pub bytes_in : Window → List ℕ
bytes_in w = take w.len w.bytes.items

-- the window's bytes are the segment's from its offset on, and if fewer were read than requested,
-- the file ends there
pub record Sees (w : Window) (file : List ℕ) : Type 0 where
  pub bytes : bytes_in w ≡ take w.len (drop w.from (bytes_of w.extent file))
  pub ended : w.from + w.len < w.asked → length (bytes_of w.extent file) ≤ w.from + w.len

-- the offset in its segment of the record that a reader reads next
abbrev pub next_place : SegmentReader → ℕ
next_place r = r.at

-- how many bytes of its segment a reader has requested
abbrev pub bytes_asked : SegmentReader → ℕ
bytes_asked r = r.window.asked

-- the reader reads the segment of this entry, and has requested no more bytes of it than it has
pub record Reads (r : SegmentReader) (entry : Entry) : Type 0 where
  pub extent : r.window.extent ≡ extent_of entry
  pub form : r.window.form ≡ form_in entry.sums
  pub asked : r.window.asked ≤ entry.bytes

-- what the reader has in memory is what the file has
abbrev pub HasSeen : SegmentReader → List ℕ → Type 0
HasSeen r file = Sees r.window file
