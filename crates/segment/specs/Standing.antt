-- The places of rows: the byte at which each record begins.
use Rattle.std.specs.Prelude.{◌≡◌, ℕ, ◌+◌, List, [], ◌∷◌, length, map, slice_get, Some}
use Rattle.rf2_values.specs.Key.{key_of}
use Rattle.history_model.specs.declared.stamped.StampedRow.{StampedRow}
use Rattle.history_model.specs.InOrder.{Has}
use Rattle.segment.specs.declared.place.RowPlace.{RowPlace}
use Rattle.checksum.specs.declared.form.Form.{Form}
use Rattle.segment.specs.Records.{record_of, IsSegmentIn, IsRecordAt}

-- the length of a row's record, in bytes
abbrev pub record_len : StampedRow → ℕ
record_len s = length (record_of s)

-- the place of a row whose record begins at this byte
unfoldable pub row_place : StampedRow → ℕ → RowPlace
row_place s at = record { key = key_of s.row; import = s.import; at = at; bytes = record_len s }

-- rows whose records are stored one after the other from offset `at` on, each with its place
abbrev pub with_places : ℕ → List StampedRow → List (StampedRow × RowPlace)
with_places at [] = []
with_places at (s ∷ rows) = (s, row_place s at) ∷ with_places (at + record_len s) rows

-- the places of a segment's rows, in order
abbrev pub places_of : List StampedRow → List RowPlace
places_of rows = map (λ x. x.1) (with_places 0 rows)

-- the row is at the place, in the list with this number
pub record StandsAt (lists : List (List StampedRow)) (segment : ℕ) (at : RowPlace)
    (s : StampedRow) : Type 0 where
  pub rows : List StampedRow
  pub list_is : slice_get lists segment ≡ Some rows
  pub there : Has (with_places 0 rows) (s, at)

-- the place has the row's key and import number, and the row's record is there in the bytes of its
-- list
pub record IsPlaceIn (form : Form) (bytes : List ℕ) (at : RowPlace) (s : StampedRow) : Type 0 where
  pub key_is : at.key ≡ key_of s.row
  pub import_is : at.import ≡ s.import
  pub record_is : IsRecordAt form bytes at.at s (at.at + at.bytes)

-- if a row is at a place, its record is at that byte of the segment
abbrev pub EachStandsAtItsByte : Type 0
EachStandsAtItsByte = (form : Form) (lists : List (List StampedRow)) (segment : ℕ) (at : RowPlace)
    (s : StampedRow) (rows : List StampedRow) (bytes : List ℕ)
    → StandsAt lists segment at s → slice_get lists segment ≡ Some rows → IsSegmentIn form rows bytes
    → IsPlaceIn form bytes at s
