-- What is found among the fields is found among the bytes.
use Rattle.std.proofs.Common.{◌≡◌, ℕ, ◌+◌, List, [], ◌∷◌, ◌++◌, length, Option, Some, None, Result, Err, refl, sym, ap, subst, ◌∙◌}
use Rattle.std.specs.Borrow.{Bor}
use Rattle.std.specs.Int.{w8, w32, w64, w128}
use Rattle.std.proofs.lemmas.List.Concat.{flat_map-append}
use Rattle.rf2_values.specs.declared.row.Kind.{Kind}
use Rattle.rf2_values.specs.declared.row.Body.{Body}
use Rattle.segment.specs.declared.fault.SegmentFault.{SegmentFault}
use Rattle.segment.specs.declared.fault.SegmentFault.TheVariants as faults
use Rattle.rf2_values.specs.Row.{kind_of}
use Rattle.history_model.specs.declared.stamped.StampedRow.{StampedRow}
use Rattle.checksum.specs.declared.form.Form.{Form}
use Rattle.checksum.specs.declared.form.Form.TheVariants as forms
use Rattle.segment.specs.declared.raw.RawCommon.{RawCommon}
use Rattle.segment.specs.Records.{Field, Number, field_bytes, spelled, kind_code, active_code, common_fields, body_fields, fields_of, head_of, record_of, record_in, IsStamped}
use Rattle.segment.specs.Private.Reading.{fields_at, all_at, common_forms, body_forms, raw_common_fields, record_bytes_at}
use Rattle.segment.specs.Private.Finding.{Finds, IsBodyIn, IsRowIn, FindsRecord, IsSplit, Splits}
use Rattle.segment.proofs.Numbers.{IsBytes}
use Rattle.segment.proofs.FieldLaws.{fields_some, all_some, record_bytes_some}
use Rattle.segment.proofs.RecordLaws.{body_again, common_again, parts_are, row_fits, same_bodies, some_fields, record_again, plain_record, same_behind, behind_head}

-- ---- the fields that each record has

-- a row has these fields, and the rest is its body's
pub record Agrees (common : RawCommon) (rest : List ℕ) (s : StampedRow) : Type 0 where
  pub kind : kind_code (kind_of s.row) ≡ common.kind
  pub id : s.row.id ≡ common.id
  pub time : s.row.time ≡ common.time
  pub import : s.import ≡ common.import
  pub active : active_code s.row.active ≡ common.active
  pub module_id : s.row.module_id ≡ common.module_id
  pub body : rest ≡ spelled (body_fields s.row.body)

pub common_there : (record_bytes : List ℕ) (common : RawCommon) (rest : List ℕ) (s : StampedRow) → fields_at common_forms record_bytes ≡ Some (raw_common_fields common, rest)
    → IsStamped s → record_bytes ≡ spelled (fields_of s) → Agrees common rest s
common_there bytes common rest s read is e =
    let both = sym read ∙ ap (fields_at common_forms) e ∙ common_again s is in
    let parts = parts_are (raw_common_fields common) (common_fields s) rest (spelled (body_fields s.row.body)) both in
    let same = parts.0 in
    record { kind = cc; id = cc; time = cc; import = cc; active = cc; module_id = cc; body = parts.1 }

pub common_missing : (record_bytes : List ℕ) → fields_at common_forms record_bytes ≡ None → (s : StampedRow) → IsStamped s → record_bytes ≡ spelled (fields_of s) → ⊥
common_missing bytes none s is e = let read = ap (fields_at common_forms) e ∙ common_again s is in absurd cc

-- a row that has the fields that were read is spelled by the bytes
pub row_found : (bytes : List ℕ) (common : RawCommon) (rest : List ℕ) (s : StampedRow) → IsBytes bytes → fields_at common_forms bytes ≡ Some (raw_common_fields common, rest)
    → Agrees common rest s → bytes ≡ spelled (fields_of s)
row_found bytes common rest s fits read a =
    let parts = fields_some common_forms bytes (raw_common_fields common, rest) fits read in
    let same : raw_common_fields common ≡ common_fields s = λ i. Number w8 (sym a.kind i) ∷ Number w128 (sym a.id i) ∷ Number w32 (sym a.time i) ∷ Number w32 (sym a.import i) ∷ Number w8 (sym a.active i) ∷ Number w64 (sym a.module_id i) ∷ [] in
    parts.whole ∙ ap (λ (fields : List Field). spelled fields ++ rest) same ∙ ap (λ (end : List ℕ). spelled (common_fields s) ++ end) a.body
    ∙ sym (flat_map-append field_bytes (common_fields s) (body_fields s.row.body))

-- the body of a row is in the bytes that spell its fields
pub body_there : (s : StampedRow) (kind : Kind) (bytes : List ℕ) → IsStamped s → kind_of s.row ≡ kind → bytes ≡ spelled (body_fields s.row.body) → IsBodyIn kind bytes s.row.body
body_there s kind bytes is kind_is e =
    (kind_is, ap (all_at (body_forms kind)) e ∙ ap (λ (k : Kind). all_at (body_forms k) (spelled (body_fields s.row.body))) (sym kind_is) ∙ body_again s.row.body (row_fits s.row is.row))

pub body_bytes : (kind : Kind) (bytes : List ℕ) (b : Body) → IsBytes bytes → IsBodyIn kind bytes b → bytes ≡ spelled (body_fields b)
body_bytes kind bytes b fits is = all_some (body_forms kind) bytes (body_fields b) fits is.1

-- bytes are those of one body
pub one_body : (kind : Kind) (bytes : List ℕ) (b c : Body) → IsBodyIn kind bytes b → IsBodyIn kind bytes c → b ≡ c
one_body kind bytes b c p q = let e : body_fields b ≡ body_fields c = some_fields (body_fields b) (body_fields c) _ _ p.1 q.1 refl in same_bodies b c e

-- a refusal that is passed on
pub passed_on : {X Y : Type 0} (Inner P : X → Type 0) (Outer Q : Y → Type 0) (r : Result Y SegmentFault) (f : SegmentFault) → (e : SegmentFault) × (r ≡ Err e) × (e ≡ f) → Finds Inner P (Err f)
    → ((y : Y) → Outer y → Q y → (x : X) × Inner x × P x) → Finds Outer Q r
passed_on {X} {Y} Inner P Outer Q r faults.OutOfMemory same none give =
    subst (Finds Outer Q) (sym (same.1 ∙ ap (λ (g : SegmentFault). Err g) same.2)) tt
passed_on {X} {Y} Inner P Outer Q r faults.BadSegment same none give =
    subst (Finds Outer Q) (sym (same.1 ∙ ap (λ (g : SegmentFault). Err g) same.2)) (λ y is has. let w = give y is has in none w.0 w.1 w.2)

-- ---- the record that bytes begin with

record_missing : (bytes : List ℕ) → record_bytes_at bytes ≡ None → (s : StampedRow) (rest : List ℕ) → IsStamped s → bytes ≡ record_of s ++ rest → ⊥
record_missing bytes none s rest is e = let read = ap record_bytes_at e ∙ record_again s rest is in absurd cc

plain_at : (bytes : List ℕ) (s : StampedRow) (rest : List ℕ) → bytes ≡ record_in forms.Plain s ++ rest → bytes ≡ record_of s ++ rest
plain_at bytes s rest e = e ∙ ap (λ (l : List ℕ). l ++ rest) (plain_record s)

-- by the length of a record its fields are found
pub plain_splits : (bytes : List ℕ) (r : Option (List ℕ × List ℕ)) → IsBytes bytes → record_bytes_at bytes ≡ r → Splits forms.Plain bytes r
plain_splits bytes None fits read = λ s rest is e. record_missing bytes read s rest is (plain_at bytes s rest e)
plain_splits bytes (Some p) fits read = record {
  whole = (record_bytes_some bytes p fits read).0.whole;
  only = λ s other is e. (parts_are p.0 (spelled (fields_of s)) p.1 other (sym read ∙ ap record_bytes_at (plain_at bytes s other e) ∙ record_again s other is)).0;
}

-- a row of the fields that were found has its record there
pub record_found : (form : Form) (bytes fields rest : List ℕ) (s : StampedRow) → IsSplit form bytes fields rest → IsRowIn fields s → IsStamped s × (bytes ≡ record_in form s ++ rest)
unfolding record_in
record_found form bytes fields rest s split is =
    (is.0, split.whole ∙ ap (λ (l : List ℕ). (field_bytes (Number w32 (head_of form l)) ++ l) ++ rest) is.1)

pub record_refused : (form : Form) (bytes fields rest : List ℕ) (r : Result (StampedRow × Bor (List ℕ)) SegmentFault) (f : SegmentFault) → IsSplit form bytes fields rest
    → (e : SegmentFault) × (r ≡ Err e) × (e ≡ f) → Finds IsStamped (IsRowIn fields) (Err f) → FindsRecord form bytes r
record_refused form bytes fields rest r faults.OutOfMemory split same none =
    subst (FindsRecord form bytes) (sym (same.1 ∙ ap (λ (g : SegmentFault). Err g) same.2)) tt
record_refused form bytes fields rest r faults.BadSegment split same none =
    subst (FindsRecord form bytes) (sym (same.1 ∙ ap (λ (g : SegmentFault). Err g) same.2))
    (λ s other is e. none s is (is, split.only s other is e))
