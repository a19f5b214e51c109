-- The fields at the beginning of bytes, judged by their forms alone: definitions for private
-- functions that read bytes. No public clause cites them.
use Rattle.std.specs.Prelude.{ℕ, ◌+◌, List, [], ◌∷◌, length, take, drop, Option, Some, None}
use Rattle.std.specs.Prelude.{option_and_then, nat_lt, ◌==◌, ◌-◌, ◌*◌, ◌^◌, ◌<◌, if◌then◌else◌}
use Rattle.std.specs.Int.{Width, w8, w16, w32, w64, w128, byte_len, from_be_bytes}
use Rattle.rf2_values.specs.declared.row.Kind.{Kind}
use Rattle.rf2_values.specs.declared.row.Kind.TheVariants as kinds
use Rattle.rf2_values.specs.declared.row.Body.{Body}
use Rattle.rf2_values.specs.declared.row.Body.TheVariants as bodies
use Rattle.segment.specs.declared.raw.RawCommon.{RawCommon}
use Rattle.segment.specs.declared.raw.RawDescription.{RawDescription}
use Rattle.segment.specs.declared.raw.RawRelationship.{RawRelationship}
use Rattle.segment.specs.declared.raw.RawAssociation.{RawAssociation}
use Rattle.segment.specs.declared.raw.RawConcrete.{RawConcrete}
use Rattle.segment.specs.declared.raw.RawMember.{RawMember}
use Rattle.segment.specs.Records.{Field, Number, Text}

-- the form of a field: a number of a width, or a text
pub data Form : Type 0 where
  Wide : Width → Form
  Counted : Form

abbrev pub form_of : Field → Form
form_of (Number width n) = Wide width
form_of (Text text) = Counted

-- the fields that can be encoded: a number within its width, a text whose length fits in two bytes
abbrev pub Fits : Field → Type 0
Fits (Number width n) = n < 2 ^ (8 * byte_len width)
Fits (Text text) = length text < 2 ^ 16

infixl 10 ◌>>=◌
abbrev pub ◌>>=◌ : {A B : Type 0} → Option A → (A → Option B) → Option B
found >>= next = option_and_then next found

-- the first `n` bytes, and those after them
abbrev pub cut_at : ℕ → List ℕ → Option (List ℕ × List ℕ)
cut_at n bytes = if nat_lt (length bytes) n then None else Some (take n bytes, drop n bytes)

-- the number of this width at the beginning of the bytes, and the bytes after it
unfoldable pub number_at : Width → List ℕ → Option (ℕ × List ℕ)
number_at width bytes = do
  parts ← cut_at (byte_len width) bytes
  Some (from_be_bytes width parts.0, parts.1)

-- the text at the beginning of the bytes, after the two bytes of its length, and the bytes after it
unfoldable pub text_at : List ℕ → Option (List ℕ × List ℕ)
text_at bytes = do
  len ← number_at w16 bytes
  cut_at len.0 len.1

abbrev pub field_at : Form → List ℕ → Option (Field × List ℕ)
field_at (Wide width) bytes = do
  n ← number_at width bytes
  Some (Number width n.0, n.1)
field_at Counted bytes = do
  text ← text_at bytes
  Some (Text text.0, text.1)

abbrev pub fields_at : List Form → List ℕ → Option (List Field × List ℕ)
fields_at [] bytes = Some ([], bytes)
fields_at (form ∷ forms) bytes = do
  field ← field_at form bytes
  fields ← fields_at forms field.1
  Some (field.0 ∷ fields.0, fields.1)

-- the forms of the fields that all records have, and of those for a kind
abbrev pub common_forms : List Form
common_forms = Wide w8 ∷ Wide w128 ∷ Wide w32 ∷ Wide w32 ∷ Wide w8 ∷ Wide w64 ∷ []

abbrev pub body_forms : Kind → List Form
body_forms kinds.Concept = Wide w64 ∷ []
body_forms kinds.Description = Wide w64 ∷ Wide w64 ∷ Wide w64 ∷ Counted ∷ Counted ∷ []
body_forms kinds.Relationship = Wide w64 ∷ Wide w64 ∷ Wide w32 ∷ Wide w64 ∷ Wide w64 ∷ Wide w64 ∷ []
body_forms kinds.Association = Wide w64 ∷ Wide w64 ∷ Wide w64 ∷ []
body_forms kinds.Concrete = Wide w64 ∷ Wide w32 ∷ Wide w64 ∷ Wide w64 ∷ Wide w64 ∷ Counted ∷ []
body_forms kinds.Member = Wide w64 ∷ Wide w64 ∷ Counted ∷ []

-- the fields that the bytes consist of, with no rest
abbrev pub all_at : List Form → List ℕ → Option (List Field)
all_at forms bytes = do
  fields ← fields_at forms bytes
  if length fields.1 == 0 then Some fields.0 else None

-- the first record in the bytes, without its length, and the bytes after it
unfoldable pub record_bytes_at : List ℕ → Option (List ℕ × List ℕ)
record_bytes_at bytes = do
  len ← number_at w32 bytes
  if nat_lt len.0 4 then None else cut_at (len.0 - 4) len.1

-- ---- the fields that are read, before the rules of any column are checked

abbrev pub raw_common_fields : RawCommon → List Field
raw_common_fields r = Number w8 r.kind ∷ Number w128 r.id ∷ Number w32 r.time ∷ Number w32 r.import
    ∷ Number w8 r.active ∷ Number w64 r.module_id ∷ []

abbrev pub raw_description_fields : RawDescription → List Field
raw_description_fields r = Number w64 r.concept ∷ Number w64 r.type_id
    ∷ Number w64 r.case_significance ∷ Text r.language_code.now ∷ Text r.term.now ∷ []

abbrev pub raw_relationship_fields : RawRelationship → List Field
raw_relationship_fields r = Number w64 r.source ∷ Number w64 r.destination ∷ Number w32 r.group
    ∷ Number w64 r.type_id ∷ Number w64 r.characteristic_type ∷ Number w64 r.modifier ∷ []

abbrev pub raw_association_fields : RawAssociation → List Field
raw_association_fields r = Number w64 r.refset ∷ Number w64 r.referenced ∷ Number w64 r.target ∷ []

abbrev pub raw_concrete_fields : RawConcrete → List Field
raw_concrete_fields r = Number w64 r.source ∷ Number w32 r.group ∷ Number w64 r.type_id
    ∷ Number w64 r.characteristic_type ∷ Number w64 r.modifier ∷ Text r.value.now ∷ []

abbrev pub raw_member_fields : RawMember → List Field
raw_member_fields r = Number w64 r.refset ∷ Number w64 r.referenced ∷ Text r.further.now ∷ []

-- the length of a record in bytes, without its texts
abbrev pub fixed_len : Kind → ℕ
fixed_len kinds.Concept = 46
fixed_len kinds.Description = 66
fixed_len kinds.Relationship = 82
fixed_len kinds.Association = 62
fixed_len kinds.Concrete = 76
fixed_len kinds.Member = 56

-- the total length of the texts of a body, in bytes
abbrev pub texts_len : Body → ℕ
texts_len (bodies.Description d) = length d.language_code + length d.term
texts_len (bodies.Concrete c) = length c.value
texts_len (bodies.Member m) = length m.further
texts_len _ = 0
