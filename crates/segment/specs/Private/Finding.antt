-- What a search finds, and what a refusal says: definitions for private functions that read bytes.
-- No public clause cites them.
use Rattle.std.specs.Prelude.{◌≡◌, ℕ, List, ◌++◌, Result, Ok, Err, Option, Some, None}
use Rattle.rf2_values.specs.declared.row.Body.{Body}
use Rattle.rf2_values.specs.declared.row.Kind.{Kind}
use Rattle.rf2_values.specs.Row.{kind_of_body}
use Rattle.std.specs.Borrow.{Bor}
use Rattle.segment.specs.Private.Reading.{all_at, body_forms}
use Rattle.history_model.specs.declared.stamped.StampedRow.{StampedRow}
use Rattle.segment.specs.declared.fault.SegmentFault.{SegmentFault}
use Rattle.segment.specs.declared.fault.SegmentFault.TheVariants as faults
use Rattle.std.specs.Int.{w32}
use Rattle.checksum.specs.declared.form.Form.{Form}
use Rattle.segment.specs.Records.{Field, Number, field_bytes, spelled, body_fields, fields_of, head_of, record_in, IsStamped}

-- a value for which `P` holds is found; or there is no allowed value for which it does, unless
-- memory ran out
abbrev pub Finds : {X : Type 0} → (X → Type 0) → (X → Type 0) → Result X SegmentFault → Type 0
Finds Allowed P (Ok x) = P x
Finds Allowed P (Err faults.OutOfMemory) = Unit {0}
Finds {X} Allowed P (Err faults.BadSegment) = (x : X) → Allowed x → P x → ⊥

-- a body of a kind with these fields
abbrev pub HasFields : Kind → List Field → Body → Type 0
HasFields kind fields b = (kind_of_body b ≡ kind) × (body_fields b ≡ fields)

-- a body of a kind whose fields are exactly these bytes
abbrev pub IsBodyIn : Kind → List ℕ → Body → Type 0
IsBodyIn kind bytes b =
    (kind_of_body b ≡ kind) × (all_at (body_forms kind) bytes ≡ Some (body_fields b))

-- a row whose fields are encoded by these bytes
abbrev pub IsRowIn : List ℕ → StampedRow → Type 0
IsRowIn bytes s = IsStamped s × (bytes ≡ spelled (fields_of s))

-- the row whose record the bytes begin with, and the bytes after it; or there is none, unless
-- memory ran out
abbrev pub FindsRecord : Form → List ℕ → Result (StampedRow × Bor (List ℕ)) SegmentFault → Type 0
FindsRecord form bytes (Ok p) = IsStamped p.0 × (bytes ≡ record_in form p.0 ++ p.1.now)
FindsRecord form bytes (Err faults.OutOfMemory) = Unit {0}
FindsRecord form bytes (Err faults.BadSegment) =
    (s : StampedRow) (rest : List ℕ) → IsStamped s → bytes ≡ record_in form s ++ rest → ⊥

-- the bytes begin with a record's first four bytes and these fields; and if they begin with the
-- record of a row, these are its fields
pub record IsSplit (form : Form) (bytes fields rest : List ℕ) : Type 0 where
  pub whole : bytes ≡ (field_bytes (Number w32 (head_of form fields)) ++ fields) ++ rest
  pub only : (s : StampedRow) (other : List ℕ) → IsStamped s → bytes ≡ record_in form s ++ other
      → fields ≡ spelled (fields_of s)

-- the bytes are split in this way, or they begin with no record
abbrev pub Splits : Form → List ℕ → Option (List ℕ × List ℕ) → Type 0
Splits form bytes (Some p) = IsSplit form bytes p.0 p.1
Splits form bytes None =
    (s : StampedRow) (rest : List ℕ) → IsStamped s → bytes ≡ record_in form s ++ rest → ⊥
