-- Rows as bytes: each row is a record, and a segment consists of records in key order.
use Rattle.std.specs.Prelude.{◌≡◌, ◌≢◌, ◌↔◌, ◌⊎◌, ℕ, ◌+◌, ◌-◌, ◌^◌, ◌<◌, ◌≤◌, Bool, true, false, List, [], ◌∷◌, ◌++◌}
use Rattle.std.specs.Prelude.{length, take, drop}
use Rattle.std.specs.List.{AllByRecursion, flat_map}
use Rattle.std.specs.Int.{Width, w8, w16, w32, w64, w128, byte_len, to_be_bytes}
use Rattle.rf2_values.specs.declared.row.Kind.{Kind}
use Rattle.rf2_values.specs.declared.row.Kind.TheVariants as kinds
use Rattle.rf2_values.specs.declared.row.Body.{Body}
use Rattle.rf2_values.specs.declared.row.Body.TheVariants as bodies
use Rattle.rf2_values.specs.Row.{IsVersion, kind_of}
use Rattle.history_model.specs.declared.stamped.StampedRow.{StampedRow}
use Rattle.history_model.specs.InOrder.{IsAscending}
use Rattle.history_model.specs.History.{stamped_cmp}
use Rattle.checksum.specs.Crc32c.{crc32c}
use Rattle.checksum.specs.declared.form.Form.{Form}
use Rattle.checksum.specs.declared.form.Form.TheVariants as forms

-- a field of a record: a big-endian number of a width, or a text after its length in two bytes
pub data Field : Type 0 where
  Number : Width → ℕ → Field
  Text : List ℕ → Field

-- the bytes of a field
unfoldable pub field_bytes : Field → List ℕ
field_bytes (Number width n) = to_be_bytes width n
field_bytes (Text text) = to_be_bytes w16 (length text) ++ text

-- the fields, one after the other
abbrev pub spelled : List Field → List ℕ
spelled fields = flat_map field_bytes fields

abbrev pub kind_code : Kind → ℕ
kind_code kinds.Concept = 1
kind_code kinds.Description = 2
kind_code kinds.Relationship = 3
kind_code kinds.Association = 4
kind_code kinds.Concrete = 5
kind_code kinds.Member = 6

abbrev pub active_code : Bool → ℕ
active_code false = 0
active_code true = 1

-- the fields that all records have
abbrev pub common_fields : StampedRow → List Field
common_fields s =
    Number w8 (kind_code (kind_of s.row)) ∷ Number w128 s.row.id ∷ Number w32 s.row.time
    ∷ Number w32 s.import ∷ Number w8 (active_code s.row.active) ∷ Number w64 s.row.module_id
    ∷ []

-- the further fields of records of each kind
abbrev pub body_fields : Body → List Field
body_fields (bodies.Concept c) = Number w64 c.definition_status ∷ []
body_fields (bodies.Description d) = Number w64 d.concept ∷ Number w64 d.type_id
    ∷ Number w64 d.case_significance ∷ Text d.language_code ∷ Text d.term ∷ []
body_fields (bodies.Relationship r) = Number w64 r.source ∷ Number w64 r.destination
    ∷ Number w32 r.group ∷ Number w64 r.type_id ∷ Number w64 r.characteristic_type
    ∷ Number w64 r.modifier ∷ []
body_fields (bodies.Association a) =
    Number w64 a.refset ∷ Number w64 a.referenced ∷ Number w64 a.target ∷ []
body_fields (bodies.Concrete c) = Number w64 c.source ∷ Number w32 c.group ∷ Number w64 c.type_id
    ∷ Number w64 c.characteristic_type ∷ Number w64 c.modifier ∷ Text c.value ∷ []
body_fields (bodies.Member m) = Number w64 m.refset ∷ Number w64 m.referenced ∷ Text m.further ∷ []

-- all fields of a record, without its first four bytes
abbrev pub fields_of : StampedRow → List Field
fields_of s = common_fields s ++ body_fields s.row.body

-- the length of the whole record in four bytes, and then its fields
unfoldable pub record_of : StampedRow → List ℕ
record_of s = field_bytes (Number w32 (4 + length (spelled (fields_of s)))) ++ spelled (fields_of s)

-- the first four bytes of a record, as a number: in a plain segment the length of the whole record,
-- in a checked one the checksum of its fields, from which their length follows
abbrev pub head_of : Form → List ℕ → ℕ
head_of forms.Plain fields = 4 + length fields
head_of forms.Checked fields = crc32c fields

-- the record of a row in a segment of this form
unfoldable pub record_in : Form → StampedRow → List ℕ
record_in form s =
    field_bytes (Number w32 (head_of form (spelled (fields_of s)))) ++ spelled (fields_of s)

-- what can be encoded as a record: a row that a line may contain, with an import number
pub record IsStamped (s : StampedRow) : Type 0 where
  pub row : IsVersion s.row
  pub from_one : 1 ≤ s.import
  pub fits : s.import < 2 ^ 32

-- the records of rows, one after the other
unfoldable pub segment_of : List StampedRow → List ℕ
segment_of rows = flat_map record_of rows

unfoldable pub segment_in : Form → List StampedRow → List ℕ
segment_in form rows = flat_map (record_in form) rows

-- the bytes are the records of these rows, in strictly ascending key order
pub record IsSegmentIn (form : Form) (rows : List StampedRow) (bytes : List ℕ) : Type 0 where
  pub each : AllByRecursion IsStamped rows
  pub ascending : IsAscending stamped_cmp rows
  pub bytes_are : bytes ≡ segment_in form rows

pub record IsSegment (rows : List StampedRow) (bytes : List ℕ) : Type 0 where
  pub each : AllByRecursion IsStamped rows
  pub ascending : IsAscending stamped_cmp rows
  pub bytes_are : bytes ≡ segment_of rows

-- the row's record begins at offset `place`, and ends at offset `next`
pub record IsRecordAt (form : Form) (bytes : List ℕ) (place : ℕ) (s : StampedRow)
    (next : ℕ) : Type 0 where
  pub is : IsStamped s
  pub next_is : next ≡ place + length (record_of s)
  pub bytes_are : take (length (record_of s)) (drop place bytes) ≡ record_in form s

-- bytes are the segment of at most one list of rows
abbrev pub OneSegment : Type 0
OneSegment = (form : Form) (rows others : List StampedRow) (bytes : List ℕ)
    → IsSegmentIn form rows bytes → IsSegmentIn form others bytes → rows ≡ others

-- at an offset there is the record of at most one row
abbrev pub OneRecord : Type 0
OneRecord = (form : Form) (bytes : List ℕ) (place : ℕ) (s other : StampedRow) (next after : ℕ)
    → IsRecordAt form bytes place s next → IsRecordAt form bytes place other after
    → (s ≡ other) × (next ≡ after)

-- in a segment each row's record begins where those of the rows before it end
abbrev pub EachAtItsPlace : Type 0
EachAtItsPlace =
    (form : Form) (before after : List StampedRow) (s : StampedRow) (bytes : List ℕ)
    → IsSegmentIn form (before ++ s ∷ after) bytes
    → IsRecordAt form bytes (length (segment_of before)) s (length (segment_of (before ++ s ∷ [])))

-- the records of two lists of rows, one after the other, are those of the lists joined
abbrev pub PiecesJoin : Type 0
PiecesJoin = (form : Form) (rows others : List StampedRow)
    → segment_in form (rows ++ others) ≡ segment_in form rows ++ segment_in form others

-- a record is equally long in each form, and so is a segment
abbrev pub EquallyLong : Type 0
EquallyLong = (form : Form) (rows : List StampedRow)
    → AllByRecursion (λ s. length (record_in form s) ≡ length (record_of s)) rows
    × (length (segment_in form rows) ≡ length (segment_of rows))

-- a plain segment is what a segment was before there were checked ones
abbrev pub PlainIsAsBefore : Type 0
PlainIsAsBefore = (rows : List StampedRow) (bytes : List ℕ)
    → IsSegmentIn forms.Plain rows bytes ↔ IsSegment rows bytes

-- after one byte of a checked record was changed, it is the record of no row
abbrev pub ChangedByteIsNoticed : Type 0
ChangedByteIsNoticed = (s other : StampedRow) (before after : List ℕ) (byte changed : ℕ)
    → AllByRecursion (λ b. b < 256) (before ++ byte ∷ after) → changed < 256
    → record_in forms.Checked s ≡ before ++ byte ∷ after
    → record_in forms.Checked other ≡ before ++ changed ∷ after → byte ≡ changed

-- the length of the fields depends on the byte at this offset: it is one of the two bytes of a
-- text's length
abbrev pub SaysLength : List Field → ℕ → Type 0
SaysLength [] place = ⊥
SaysLength (Number width n ∷ fields) place =
    (byte_len width ≤ place) × SaysLength fields (place - byte_len width)
SaysLength (Text text ∷ fields) place = (place < 2)
    ⊎ ((2 + length text ≤ place) × SaysLength fields (place - (2 + length text)))

-- the length of a checked record depends on the byte at this offset: it is the kind, or one of a
-- text's length
abbrev pub IsOfLength : StampedRow → ℕ → Type 0
IsOfLength s place = (place ≡ 4) ⊎ ((4 ≤ place) × SaysLength (fields_of s) (place - 4))

-- bytes that began with a checked record begin with the record of no row after one of its bytes was
-- changed, unless the record's length depends on that byte
abbrev pub ChangedRecordIsNone : Type 0
ChangedRecordIsNone = (s t : StampedRow) (x y before after : List ℕ) (byte changed : ℕ)
    → IsStamped s → IsStamped t
    → AllByRecursion (λ b. b < 256) (before ++ byte ∷ after) → changed < 256 → byte ≢ changed
    → length before < length (record_of s) → (IsOfLength s (length before) → ⊥)
    → record_in forms.Checked s ++ x ≡ before ++ byte ∷ after
    → record_in forms.Checked t ++ y ≡ before ++ changed ∷ after → ⊥
