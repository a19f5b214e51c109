-- A record is read as its row, and as no other.
use Rattle.std.proofs.Common.{◌≡◌, ℕ, ◌+◌, ◌^◌, ◌<◌, ◌≤◌, Bool, true, false, List, [], ◌∷◌, ◌++◌, length, map, drop, Option, Some, refl, sym, ap, ◌∙◌, append_assoc, arith}
use Rattle.std.specs.Prelude.{decimal}
use Rattle.std.specs.List.{AllByRecursion}
use Rattle.std.specs.Int.{w8, w16, w32, w64, w128, byte_len, to_be_bytes}
use Rattle.std.proofs.lemmas.List.{length-append, drop_at}
use Rattle.std.proofs.lemmas.List.Concat.{flat_map-append}
use Rattle.rf2_values.specs.declared.row.Kind.{Kind}
use Rattle.rf2_values.specs.declared.row.Kind.TheVariants as kinds
use Rattle.rf2_values.specs.declared.row.Body.{Body}
use Rattle.rf2_values.specs.declared.row.Body.TheVariants as bodies
use Rattle.rf2_values.specs.Row.{RowValue, IsVersion, IsBody, IsIdOf, kind_of, kind_of_body, line_limit, line_of, body_columns, flag, id_text}
use Rattle.rf2_values.specs.Time.{IsTime}
use Rattle.rf2_values.proofs.Lengths.{length-line}
use Rattle.rf2_values.proofs.FurtherColumns.{further_length}
use Rattle.history_model.specs.declared.stamped.StampedRow.{StampedRow}
use Rattle.checksum.specs.declared.form.Form.{Form}
use Rattle.checksum.specs.declared.form.Form.TheVariants as forms
use Rattle.segment.specs.Records.{head_of, record_in, Field, Number, Text, field_bytes, spelled, kind_code, active_code, common_fields, body_fields, fields_of, record_of, IsStamped}
use Rattle.segment.specs.Private.Reading.{form_of, Fits, fields_at, all_at, common_forms, body_forms, record_bytes_at, fixed_len, texts_len}
use Rattle.segment.proofs.Numbers.{number_length}
use Rattle.segment.proofs.FieldLaws.{fields_again, all_again, record_bytes_again}

-- ---- the fields of a row fit

small_kind : (k : Kind) → kind_code k < 2 ^ 8
small_kind kinds.Concept = omega arith
small_kind kinds.Description = omega arith
small_kind kinds.Relationship = omega arith
small_kind kinds.Association = omega arith
small_kind kinds.Concrete = omega arith
small_kind kinds.Member = omega arith

small_flag : (b : Bool) → active_code b < 2 ^ 8
small_flag false = omega arith
small_flag true = omega arith

small_id : (k : Kind) (n : ℕ) → IsIdOf k n → n < 2 ^ 128
small_id kinds.Concept n is = omega (arith, is.sctid.high)
small_id kinds.Description n is = omega (arith, is.sctid.high)
small_id kinds.Relationship n is = omega (arith, is.sctid.high)
small_id kinds.Association n is = is
small_id kinds.Concrete n is = omega (arith, is.sctid.high)
small_id kinds.Member n is = is

small_time : (t : ℕ) → IsTime t → t < 2 ^ 32
small_time t is = omega (arith, is.year_to)

pub common_fits : (s : StampedRow) → IsStamped s → AllByRecursion Fits (common_fields s)
common_fits s is =
    (small_kind (kind_of s.row), (small_id (kind_of s.row) s.row.id is.row.id, (small_time s.row.time is.row.time, (is.fits, (small_flag s.row.active, (omega (arith, is.row.module_id.sctid.high), tt))))))

body_fits : (b : Body) (id time active module_id : List ℕ) → IsBody b → length (line_of (id ∷ time ∷ active ∷ module_id ∷ body_columns b)) ≤ line_limit → AllByRecursion Fits (body_fields b)
body_fits (bodies.Concept c) id time active module_id is short = (omega (arith, is.sctid.high), tt)
body_fits (bodies.Description d) id time active module_id is short =
    let len = length-line id (time ∷ active ∷ module_id ∷ body_columns (bodies.Description d)) in
    (omega (arith, is.0.sctid.high), (omega (arith, is.2.sctid.high), (omega (arith, is.4.sctid.high), (omega (arith, len, short), (omega (arith, len, short), tt)))))
body_fits (bodies.Relationship r) id time active module_id is short =
    (omega (arith, is.0.sctid.high), (omega (arith, is.1.sctid.high), (is.2, (omega (arith, is.3.sctid.high), (omega (arith, is.4.sctid.high), (omega (arith, is.5.sctid.high), tt))))))
body_fits (bodies.Association a) id time active module_id is short =
    (omega (arith, is.0.sctid.high), (omega (arith, is.1.sctid.high), (omega (arith, is.2.sctid.high), tt)))
body_fits (bodies.Concrete c) id time active module_id is short =
    let len = length-line id (time ∷ active ∷ module_id ∷ body_columns (bodies.Concrete c)) in
    (omega (arith, is.0.sctid.high), (is.2, (omega (arith, is.3.sctid.high), (omega (arith, is.4.sctid.high), (omega (arith, is.5.sctid.high), (omega (arith, len, short), tt))))))
body_fits (bodies.Member m) id time active module_id is short =
    let len = length-line id (time ∷ active ∷ module_id ∷ body_columns (bodies.Member m)) in
    (omega (arith, is.0.sctid.high), (omega (arith, is.1.sctid.high), (omega (arith, len, short, further_length m.further), tt)))

pub row_fits : (v : RowValue) → IsVersion v → AllByRecursion Fits (body_fields v.body)
row_fits v is = body_fits v.body (id_text (kind_of v) v.id) (decimal v.time) (flag v.active) (decimal v.module_id) is.body is.short

-- ---- reading the fields of a row again

pub forms_are : (b : Body) → map form_of (body_fields b) ≡ body_forms (kind_of_body b)
forms_are (bodies.Concept c) = refl
forms_are (bodies.Description d) = refl
forms_are (bodies.Relationship r) = refl
forms_are (bodies.Association a) = refl
forms_are (bodies.Concrete c) = refl
forms_are (bodies.Member m) = refl

pub common_again : (s : StampedRow) → IsStamped s → fields_at common_forms (spelled (fields_of s)) ≡ Some (common_fields s, spelled (body_fields s.row.body))
common_again s is =
    let joined : spelled (fields_of s) ≡ spelled (common_fields s) ++ spelled (body_fields s.row.body) = flat_map-append field_bytes (common_fields s) (body_fields s.row.body) in
    ap (fields_at common_forms) joined ∙ fields_again (common_fields s) (spelled (body_fields s.row.body)) (common_fits s is)

pub body_again : (b : Body) → AllByRecursion Fits (body_fields b) → all_at (body_forms (kind_of_body b)) (spelled (body_fields b)) ≡ Some (body_fields b)
body_again b fits = ap (λ forms. all_at forms (spelled (body_fields b))) (sym (forms_are b)) ∙ all_again (body_fields b) fits

-- ---- rows of the same fields are the same

pub same_bodies : (b c : Body) → body_fields b ≡ body_fields c → b ≡ c
same_bodies (bodies.Concept b) (bodies.Concept c) e =
    let definition_status_is : b.definition_status ≡ c.definition_status = cc in
    λ i. bodies.Concept (record { definition_status = definition_status_is i })
same_bodies (bodies.Concept b) (bodies.Description c) e = absurd cc
same_bodies (bodies.Concept b) (bodies.Relationship c) e = absurd cc
same_bodies (bodies.Concept b) (bodies.Association c) e = absurd cc
same_bodies (bodies.Concept b) (bodies.Concrete c) e = absurd cc
same_bodies (bodies.Description b) (bodies.Concept c) e = absurd cc
same_bodies (bodies.Description b) (bodies.Description c) e =
    let concept_is : b.concept ≡ c.concept = cc in
    let language_code_is : b.language_code ≡ c.language_code = cc in
    let type_id_is : b.type_id ≡ c.type_id = cc in
    let term_is : b.term ≡ c.term = cc in
    let case_significance_is : b.case_significance ≡ c.case_significance = cc in
    λ i. bodies.Description (record { concept = concept_is i; language_code = language_code_is i; type_id = type_id_is i; term = term_is i; case_significance = case_significance_is i })
same_bodies (bodies.Description b) (bodies.Relationship c) e = absurd cc
same_bodies (bodies.Description b) (bodies.Association c) e = absurd cc
same_bodies (bodies.Description b) (bodies.Concrete c) e = absurd cc
same_bodies (bodies.Relationship b) (bodies.Concept c) e = absurd cc
same_bodies (bodies.Relationship b) (bodies.Description c) e = absurd cc
same_bodies (bodies.Relationship b) (bodies.Relationship c) e =
    let source_is : b.source ≡ c.source = cc in
    let destination_is : b.destination ≡ c.destination = cc in
    let group_is : b.group ≡ c.group = cc in
    let type_id_is : b.type_id ≡ c.type_id = cc in
    let characteristic_type_is : b.characteristic_type ≡ c.characteristic_type = cc in
    let modifier_is : b.modifier ≡ c.modifier = cc in
    λ i. bodies.Relationship (record { source = source_is i; destination = destination_is i; group = group_is i; type_id = type_id_is i; characteristic_type = characteristic_type_is i; modifier = modifier_is i })
same_bodies (bodies.Relationship b) (bodies.Association c) e = absurd cc
same_bodies (bodies.Relationship b) (bodies.Concrete c) e = absurd cc
same_bodies (bodies.Association b) (bodies.Concept c) e = absurd cc
same_bodies (bodies.Association b) (bodies.Description c) e = absurd cc
same_bodies (bodies.Association b) (bodies.Relationship c) e = absurd cc
same_bodies (bodies.Association b) (bodies.Association c) e =
    let refset_is : b.refset ≡ c.refset = cc in
    let referenced_is : b.referenced ≡ c.referenced = cc in
    let target_is : b.target ≡ c.target = cc in
    λ i. bodies.Association (record { refset = refset_is i; referenced = referenced_is i; target = target_is i })
same_bodies (bodies.Association b) (bodies.Concrete c) e = absurd cc
same_bodies (bodies.Concrete b) (bodies.Concept c) e = absurd cc
same_bodies (bodies.Concrete b) (bodies.Description c) e = absurd cc
same_bodies (bodies.Concrete b) (bodies.Relationship c) e = absurd cc
same_bodies (bodies.Concrete b) (bodies.Association c) e = absurd cc
same_bodies (bodies.Concrete b) (bodies.Concrete c) e =
    let source_is : b.source ≡ c.source = cc in
    let value_is : b.value ≡ c.value = cc in
    let group_is : b.group ≡ c.group = cc in
    let type_id_is : b.type_id ≡ c.type_id = cc in
    let characteristic_type_is : b.characteristic_type ≡ c.characteristic_type = cc in
    let modifier_is : b.modifier ≡ c.modifier = cc in
    λ i. bodies.Concrete (record { source = source_is i; value = value_is i; group = group_is i; type_id = type_id_is i; characteristic_type = characteristic_type_is i; modifier = modifier_is i })
same_bodies (bodies.Member b) (bodies.Concept c) e = absurd cc
same_bodies (bodies.Concept b) (bodies.Member c) e = absurd cc
same_bodies (bodies.Member b) (bodies.Description c) e = absurd cc
same_bodies (bodies.Description b) (bodies.Member c) e = absurd cc
same_bodies (bodies.Member b) (bodies.Relationship c) e = absurd cc
same_bodies (bodies.Relationship b) (bodies.Member c) e = absurd cc
same_bodies (bodies.Member b) (bodies.Association c) e = absurd cc
same_bodies (bodies.Association b) (bodies.Member c) e = absurd cc
same_bodies (bodies.Member b) (bodies.Concrete c) e = absurd cc
same_bodies (bodies.Concrete b) (bodies.Member c) e = absurd cc
same_bodies (bodies.Member b) (bodies.Member c) e =
    let refset_is : b.refset ≡ c.refset = cc in
    let referenced_is : b.referenced ≡ c.referenced = cc in
    let further_is : b.further ≡ c.further = cc in
    λ i. bodies.Member (record { refset = refset_is i; referenced = referenced_is i; further = further_is i })

pub code_kind : (k l : Kind) → kind_code k ≡ kind_code l → k ≡ l
code_kind kinds.Concept kinds.Concept e = refl
code_kind kinds.Description kinds.Description e = refl
code_kind kinds.Relationship kinds.Relationship e = refl
code_kind kinds.Association kinds.Association e = refl
code_kind kinds.Concrete kinds.Concrete e = refl
code_kind kinds.Concept kinds.Description e = absurd (omega arith)
code_kind kinds.Concept kinds.Relationship e = absurd (omega arith)
code_kind kinds.Concept kinds.Association e = absurd (omega arith)
code_kind kinds.Description kinds.Concept e = absurd (omega arith)
code_kind kinds.Description kinds.Relationship e = absurd (omega arith)
code_kind kinds.Description kinds.Association e = absurd (omega arith)
code_kind kinds.Relationship kinds.Concept e = absurd (omega arith)
code_kind kinds.Relationship kinds.Description e = absurd (omega arith)
code_kind kinds.Relationship kinds.Association e = absurd (omega arith)
code_kind kinds.Association kinds.Concept e = absurd (omega arith)
code_kind kinds.Association kinds.Description e = absurd (omega arith)
code_kind kinds.Association kinds.Relationship e = absurd (omega arith)
code_kind kinds.Concept kinds.Concrete e = absurd (omega arith)
code_kind kinds.Description kinds.Concrete e = absurd (omega arith)
code_kind kinds.Relationship kinds.Concrete e = absurd (omega arith)
code_kind kinds.Association kinds.Concrete e = absurd (omega arith)
code_kind kinds.Concrete kinds.Concept e = absurd (omega arith)
code_kind kinds.Concrete kinds.Description e = absurd (omega arith)
code_kind kinds.Concrete kinds.Relationship e = absurd (omega arith)
code_kind kinds.Concrete kinds.Association e = absurd (omega arith)
code_kind kinds.Member kinds.Member e = refl
code_kind kinds.Member kinds.Concept e = absurd (omega arith)
code_kind kinds.Concept kinds.Member e = absurd (omega arith)
code_kind kinds.Member kinds.Description e = absurd (omega arith)
code_kind kinds.Description kinds.Member e = absurd (omega arith)
code_kind kinds.Member kinds.Relationship e = absurd (omega arith)
code_kind kinds.Relationship kinds.Member e = absurd (omega arith)
code_kind kinds.Member kinds.Association e = absurd (omega arith)
code_kind kinds.Association kinds.Member e = absurd (omega arith)
code_kind kinds.Member kinds.Concrete e = absurd (omega arith)
code_kind kinds.Concrete kinds.Member e = absurd (omega arith)

pub code_flag : (a b : Bool) → active_code a ≡ active_code b → a ≡ b
code_flag false false e = refl
code_flag true true e = refl
code_flag false true e = absurd (omega arith)
code_flag true false e = absurd (omega arith)

-- fields and a rest, as a reading of them gives them
abbrev read : {X : Type 0} → X → List ℕ → Option (X × List ℕ)
read x rest = Some (x, rest)

pub parts_are : {X : Type 0} (a b : X) (x y : List ℕ) → read a x ≡ read b y → (a ≡ b) × (x ≡ y)
parts_are {X} a b x y e =
    let pairs : X × List ℕ → X × List ℕ → Type 0 = λ p q. p ≡ q in
    let p : pairs (a, x) (b, y) = cc in
    (ap (λ (q : X × List ℕ). q.0) p, ap (λ (q : X × List ℕ). q.1) p)

pub some_fields : (a b : List Field) (x y : Option (List Field)) → x ≡ Some a → y ≡ Some b → x ≡ y → a ≡ b
some_fields a b x y p q e = cc

same_rows : (s t : StampedRow) → common_fields s ≡ common_fields t → s.row.body ≡ t.row.body → s ≡ t
same_rows s t e body_is =
    let id_is : s.row.id ≡ t.row.id = cc in
    let time_is : s.row.time ≡ t.row.time = cc in
    let import_is : s.import ≡ t.import = cc in
    let flag_is : active_code s.row.active ≡ active_code t.row.active = cc in
    let active_is : s.row.active ≡ t.row.active = code_flag s.row.active t.row.active flag_is in
    let module_is : s.row.module_id ≡ t.row.module_id = cc in
    λ i. record { row = record { id = id_is i; time = time_is i; active = active_is i; module_id = module_is i; body = body_is i }; import = import_is i }

-- the fields of a record are those of one row
pub same_spelled : (s t : StampedRow) → IsStamped s → IsStamped t → spelled (fields_of s) ≡ spelled (fields_of t) → s ≡ t
same_spelled s t is other e =
    let both : read (common_fields s) (spelled (body_fields s.row.body)) ≡ read (common_fields t) (spelled (body_fields t.row.body)) = sym (common_again s is) ∙ ap (fields_at common_forms) e ∙ common_again t other in
    let parts = parts_are (common_fields s) (common_fields t) (spelled (body_fields s.row.body)) (spelled (body_fields t.row.body)) both in
    let same = parts.0 in
    let codes : kind_code (kind_of s.row) ≡ kind_code (kind_of t.row) = cc in
    let kind_is : kind_of s.row ≡ kind_of t.row = code_kind (kind_of s.row) (kind_of t.row) codes in
    let again = ap (λ (k : Kind). all_at (body_forms k) (spelled (body_fields s.row.body))) kind_is ∙ ap (all_at (body_forms (kind_of t.row))) parts.1 in
    let fields = some_fields (body_fields s.row.body) (body_fields t.row.body) _ _ (body_again s.row.body (row_fits s.row is.row)) (body_again t.row.body (row_fits t.row other.row)) again in
    same_rows s t same (same_bodies s.row.body t.row.body fields)

-- ---- records

-- how many bytes fields take
abbrev pub field_len : Field → ℕ
field_len (Number w n) = byte_len w
field_len (Text text) = 2 + length text

abbrev pub fields_len : List Field → ℕ
fields_len [] = 0
fields_len (f ∷ fields) = field_len f + fields_len fields

length-field : (f : Field) → length (field_bytes f) ≡ field_len f
unfolding field_bytes
length-field (Number w n) = number_length w n
length-field (Text text) = length-append (to_be_bytes w16 (length text)) text

pub length-spelled : (fields : List Field) → length (spelled fields) ≡ fields_len fields
length-spelled [] = refl
length-spelled (f ∷ fields) = omega (arith, length-append (field_bytes f) (spelled fields), length-field f, length-spelled fields)

body_room : (b : Body) (id time active module_id : List ℕ) → length (line_of (id ∷ time ∷ active ∷ module_id ∷ body_columns b)) ≤ line_limit → fields_len (body_fields b) ≤ 65564
body_room (bodies.Concept c) id time active module_id short = omega arith
body_room (bodies.Description d) id time active module_id short =
    let len = length-line id (time ∷ active ∷ module_id ∷ body_columns (bodies.Description d)) in omega (arith, len, short)
body_room (bodies.Relationship r) id time active module_id short = omega arith
body_room (bodies.Association a) id time active module_id short = omega arith
body_room (bodies.Concrete c) id time active module_id short =
    let len = length-line id (time ∷ active ∷ module_id ∷ body_columns (bodies.Concrete c)) in omega (arith, len, short)
body_room (bodies.Member m) id time active module_id short =
    let len = length-line id (time ∷ active ∷ module_id ∷ body_columns (bodies.Member m)) in omega (arith, len, short, further_length m.further)

pub row_room : (v : RowValue) → IsVersion v → fields_len (body_fields v.body) ≤ 65564
row_room v is = body_room v.body (id_text (kind_of v) v.id) (decimal v.time) (flag v.active) (decimal v.module_id) is.short

pub length-fields : (s : StampedRow) → length (spelled (fields_of s)) ≡ 34 + fields_len (body_fields s.row.body)
length-fields s = omega (arith, length-spelled (fields_of s))

pub length-record : (s : StampedRow) → length (record_of s) ≡ 38 + fields_len (body_fields s.row.body)
unfolding record_of
length-record s =
    let front = field_bytes (Number w32 (4 + length (spelled (fields_of s)))) in
    omega (arith, length-append front (spelled (fields_of s)), length-field (Number w32 (4 + length (spelled (fields_of s)))), length-fields s)

body_sizes : (b : Body) → 38 + fields_len (body_fields b) ≡ fixed_len (kind_of_body b) + texts_len b
body_sizes (bodies.Concept c) = refl
body_sizes (bodies.Description d) = omega arith
body_sizes (bodies.Relationship r) = refl
body_sizes (bodies.Association a) = refl
body_sizes (bodies.Concrete c) = omega arith
body_sizes (bodies.Member m) = omega arith

pub record_size : (s : StampedRow) → length (record_of s) ≡ fixed_len (kind_of s.row) + texts_len s.row.body
record_size s = length-record s ∙ body_sizes s.row.body

few_texts : (b : Body) (id time active module_id : List ℕ) → length (line_of (id ∷ time ∷ active ∷ module_id ∷ body_columns b)) ≤ line_limit → texts_len b ≤ line_limit
few_texts (bodies.Concept c) id time active module_id short = omega arith
few_texts (bodies.Description d) id time active module_id short =
    let len = length-line id (time ∷ active ∷ module_id ∷ body_columns (bodies.Description d)) in omega (arith, len, short)
few_texts (bodies.Relationship r) id time active module_id short = omega arith
few_texts (bodies.Association a) id time active module_id short = omega arith
few_texts (bodies.Concrete c) id time active module_id short =
    let len = length-line id (time ∷ active ∷ module_id ∷ body_columns (bodies.Concrete c)) in omega (arith, len, short)
few_texts (bodies.Member m) id time active module_id short =
    let len = length-line id (time ∷ active ∷ module_id ∷ body_columns (bodies.Member m)) in omega (arith, len, short, further_length m.further)

pub texts_room : (v : RowValue) → IsVersion v → texts_len v.body ≤ line_limit
texts_room v is = few_texts v.body (id_text (kind_of v) v.id) (decimal v.time) (flag v.active) (decimal v.module_id) is.short

-- a record begins with its own length
pub record_is : (s : StampedRow) → record_of s ≡ field_bytes (Number w32 (length (record_of s))) ++ spelled (fields_of s)
unfolding record_of
record_is s =
    let same : 4 + length (spelled (fields_of s)) ≡ length (record_of s) = omega (arith, length-record s, length-fields s) in
    ap (λ (n : ℕ). field_bytes (Number w32 n) ++ spelled (fields_of s)) same

pub record_length : (s : StampedRow) → IsStamped s → 4 + length (spelled (fields_of s)) < 2 ^ 32
record_length s is = omega (arith, length-fields s, row_room s.row is.row)

-- a record that bytes begin with is read
pub record_again : (s : StampedRow) (rest : List ℕ) → IsStamped s → record_bytes_at (record_of s ++ rest) ≡ Some (spelled (fields_of s), rest)
unfolding record_of
record_again s rest is = record_bytes_again (spelled (fields_of s)) rest (record_length s is)

-- a plain record
pub plain_record : (s : StampedRow) → record_in forms.Plain s ≡ record_of s
unfolding record_in record_of
plain_record s = refl

pub length-record_in : (form : Form) (s : StampedRow) → length (record_in form s) ≡ length (record_of s)
unfolding record_in
length-record_in form s =
    let front = field_bytes (Number w32 (head_of form (spelled (fields_of s)))) in
    omega (arith, length-append front (spelled (fields_of s)), length-field (Number w32 (head_of form (spelled (fields_of s)))), length-fields s, length-record s)

-- the fields of a row with others behind them
pub common_behind : (s : StampedRow) (x : List ℕ) → IsStamped s → fields_at common_forms (spelled (fields_of s) ++ x) ≡ Some (common_fields s, spelled (body_fields s.row.body) ++ x)
common_behind s x is =
    let joined : spelled (fields_of s) ≡ spelled (common_fields s) ++ spelled (body_fields s.row.body) = flat_map-append field_bytes (common_fields s) (body_fields s.row.body) in
    ap (λ (l : List ℕ). fields_at common_forms (l ++ x)) joined
    ∙ ap (fields_at common_forms) (append_assoc (spelled (common_fields s)) (spelled (body_fields s.row.body)) x)
    ∙ fields_again (common_fields s) (spelled (body_fields s.row.body) ++ x) (common_fits s is)

pub body_behind : (b : Body) (x : List ℕ) → AllByRecursion Fits (body_fields b) → fields_at (body_forms (kind_of_body b)) (spelled (body_fields b) ++ x) ≡ Some (body_fields b, x)
body_behind b x fits = ap (λ forms. fields_at forms (spelled (body_fields b) ++ x)) (sym (forms_are b)) ∙ fields_again (body_fields b) x fits

-- no bytes begin with the fields of two rows
pub same_behind : (s t : StampedRow) (x y : List ℕ) → IsStamped s → IsStamped t → spelled (fields_of s) ++ x ≡ spelled (fields_of t) ++ y → (s ≡ t) × (x ≡ y)
same_behind s t x y is other e =
    let both = sym (common_behind s x is) ∙ ap (fields_at common_forms) e ∙ common_behind t y other in
    let parts = parts_are (common_fields s) (common_fields t) (spelled (body_fields s.row.body) ++ x) (spelled (body_fields t.row.body) ++ y) both in
    let same = parts.0 in
    let codes : kind_code (kind_of s.row) ≡ kind_code (kind_of t.row) = cc in
    let kind_is : kind_of s.row ≡ kind_of t.row = code_kind (kind_of s.row) (kind_of t.row) codes in
    let again = sym (body_behind s.row.body x (row_fits s.row is.row)) ∙ ap (λ (k : Kind). fields_at (body_forms k) (spelled (body_fields s.row.body) ++ x)) kind_is ∙ ap (fields_at (body_forms (kind_of t.row))) parts.1 ∙ body_behind t.row.body y (row_fits t.row other.row) in
    let bodies = parts_are (body_fields s.row.body) (body_fields t.row.body) x y again in
    (same_rows s t same (same_bodies s.row.body t.row.body bodies.0), bodies.1)

-- what stands behind the four bytes that a record begins with
pub behind_head : (form : Form) (s : StampedRow) (x : List ℕ) → drop 4 (record_in form s ++ x) ≡ spelled (fields_of s) ++ x
unfolding record_in
behind_head form s x =
    let front = field_bytes (Number w32 (head_of form (spelled (fields_of s)))) in
    ap (drop 4) (append_assoc front (spelled (fields_of s)) x) ∙ drop_at front (spelled (fields_of s) ++ x) 4 (length-field (Number w32 (head_of form (spelled (fields_of s)))))

-- no bytes begin with two records
pub same_records : (form : Form) (s t : StampedRow) (x y : List ℕ) → IsStamped s → IsStamped t → record_in form s ++ x ≡ record_in form t ++ y → (s ≡ t) × (x ≡ y)
same_records form s t x y is other e =
    same_behind s t x y is other (sym (behind_head form s x) ∙ ap (drop 4) e ∙ behind_head form t y)

regroup : (o k i t n a m z : List ℕ) → ((((((o ++ k) ++ i) ++ t) ++ n) ++ a) ++ m) ++ z ≡ o ++ (k ++ (i ++ (t ++ (n ++ (a ++ (m ++ z))))))
regroup o k i t n a m z = simp append_assoc

-- what is put at the end, field after field, are the fields of the record
pub fields_appended : (s : StampedRow) (kind id time import active module_id : ℕ) (b : Body)
    → kind ≡ kind_code (kind_of s.row) → id ≡ s.row.id → time ≡ s.row.time → import ≡ s.import → active ≡ active_code s.row.active → module_id ≡ s.row.module_id → b ≡ s.row.body
    → (o o2 o3 o4 o5 o6 o7 out : List ℕ)
    → o2 ≡ o ++ field_bytes (Number w8 kind) → o3 ≡ o2 ++ field_bytes (Number w128 id) → o4 ≡ o3 ++ field_bytes (Number w32 time)
    → o5 ≡ o4 ++ field_bytes (Number w32 import) → o6 ≡ o5 ++ field_bytes (Number w8 active) → o7 ≡ o6 ++ field_bytes (Number w64 module_id) → out ≡ o7 ++ spelled (body_fields b)
    → out ≡ o ++ spelled (fields_of s)
fields_appended s kind id time import active module_id b kind_is id_is time_is import_is active_is module_is body_is o o2 o3 o4 o5 o6 o7 out e2 e3 e4 e5 e6 e7 e8 =
    let k = field_bytes (Number w8 (kind_code (kind_of s.row))) in
    let i = field_bytes (Number w128 s.row.id) in
    let t = field_bytes (Number w32 s.row.time) in
    let n = field_bytes (Number w32 s.import) in
    let a = field_bytes (Number w8 (active_code s.row.active)) in
    let m = field_bytes (Number w64 s.row.module_id) in
    let z = spelled (body_fields s.row.body) in
    let whole : out ≡ ((((((o ++ k) ++ i) ++ t) ++ n) ++ a) ++ m) ++ z = cc in
    whole ∙ regroup o k i t n a m z
