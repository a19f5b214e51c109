use Rattle.std.proofs.Common.{◌≡◌, ◌≤◌, ◌<◌, ◌^◌, ℕ, Bool, refl, sym, ap, subst, ◌∙◌, arith}
use Rattle.std.specs.Prelude.{⊤}
use Rattle.std.proofs.lemmas.Result.{err_from_is_err_and}
use Rattle.rf2_values.specs.declared.row.Kind.{Kind}
use Rattle.rf2_values.specs.Row.{RowValue, IsVersion, IsBody, version, kind_of}
use Rattle.rf2_values.specs.Sctid.{IsSctid}
use Rattle.rf2_values.specs.Time.{IsTime}
use Rattle.history_model.specs.declared.stamped.StampedRow.{StampedRow}
use Rattle.segment.specs.Records.{IsStamped, kind_code, active_code}
use Rattle.segment.specs.Private.Finding.{IsBodyIn, IsRowIn}
use Rattle.segment.specs.Private.Reading.{common_forms, raw_common_fields}
use Rattle.segment.proofs.Numbers.{IsBytes}
use Rattle.segment.proofs.FieldLaws.{fields_some}
use Rattle.segment.proofs.RecordLaws.{code_kind, code_flag}
use Rattle.segment.proofs.Found.{passed_on, common_there, common_missing, row_found, body_there, body_bytes, one_body, Agrees}
use Rattle.segment.proofs.row.read_row.Goals as goal

pub returns-in_default : goal.returns-in_default
returns-in_default c = λ s is has. common_missing c.args.bytes.now c.in_default.ensures s is has.1

pub returns-in_err-kind : goal.returns-in_err-kind
returns-in_err-kind c =
    passed_on (λ (k : Kind). ⊤) (λ (k : Kind). kind_code k ≡ c.in-Some.common.kind) IsStamped (IsRowIn c.args.bytes.now) c.from_residual.result c.in_err-kind.field-0.0
    (err_from_is_err_and c.from_residual.result c.from_residual.ensures.1) c.in_err-kind.ensures
    (λ s is has. let a = common_there c.args.bytes.now c.in-Some.common c.in-Some.rest.now s c.in-Some.ensures is has.1 in (kind_of s.row, tt, a.kind))

pub returns-in_err-time : goal.returns-in_err-time
returns-in_err-time c =
    passed_on IsTime (λ (t : ℕ). t ≡ c.in-Some.common.time) IsStamped (IsRowIn c.args.bytes.now) c.from_residual-in_err-time.result c.in_err-time.field-0.0
    (err_from_is_err_and c.from_residual-in_err-time.result c.from_residual-in_err-time.ensures.1) c.in_err-time.ensures
    (λ s is has. let a = common_there c.args.bytes.now c.in-Some.common c.in-Some.rest.now s c.in-Some.ensures is has.1 in (s.row.time, is.row.time, a.time))

pub returns-in_err-import : goal.returns-in_err-import
returns-in_err-import c =
    passed_on (λ (n : ℕ). 1 ≤ n) (λ (n : ℕ). (1 ≤ n) × (n ≡ c.in-Some.common.import)) IsStamped (IsRowIn c.args.bytes.now) c.from_residual-in_err-import.result c.in_err-import.field-0.0
    (err_from_is_err_and c.from_residual-in_err-import.result c.from_residual-in_err-import.ensures.1) c.in_err-import.ensures
    (λ s is has. let a = common_there c.args.bytes.now c.in-Some.common c.in-Some.rest.now s c.in-Some.ensures is has.1 in (s.import, is.from_one, (is.from_one, a.import)))

pub returns-in_err-active : goal.returns-in_err-active
returns-in_err-active c =
    passed_on (λ (b : Bool). ⊤) (λ (b : Bool). active_code b ≡ c.in-Some.common.active) IsStamped (IsRowIn c.args.bytes.now) c.from_residual-in_err-active.result c.in_err-active.field-0.0
    (err_from_is_err_and c.from_residual-in_err-active.result c.from_residual-in_err-active.ensures.1) c.in_err-active.ensures
    (λ s is has. let a = common_there c.args.bytes.now c.in-Some.common c.in-Some.rest.now s c.in-Some.ensures is has.1 in (s.row.active, tt, a.active))

pub returns-in_err-module_id : goal.returns-in_err-module_id
returns-in_err-module_id c =
    passed_on IsSctid (λ (n : ℕ). n ≡ c.in-Some.common.module_id) IsStamped (IsRowIn c.args.bytes.now) c.from_residual-in_err-module_id.result c.in_err-module_id.field-0.0
    (err_from_is_err_and c.from_residual-in_err-module_id.result c.from_residual-in_err-module_id.ensures.1) c.in_err-module_id.ensures
    (λ s is has. let a = common_there c.args.bytes.now c.in-Some.common c.in-Some.rest.now s c.in-Some.ensures is has.1 in (s.row.module_id, is.row.module_id.sctid, a.module_id))

pub returns-in_err-body : goal.returns-in_err-body
returns-in_err-body c =
    passed_on IsBody (IsBodyIn c.in_ok-kind.kind c.in-Some.rest.now) IsStamped (IsRowIn c.args.bytes.now) c.from_residual-in_err-body.result c.in_err-body.field-0.0
    (err_from_is_err_and c.from_residual-in_err-body.result c.from_residual-in_err-body.ensures.1) c.in_err-body.ensures
    (λ s is has.
    let a = common_there c.args.bytes.now c.in-Some.common c.in-Some.rest.now s c.in-Some.ensures is has.1 in
    let kind_is = code_kind (kind_of s.row) c.in_ok-kind.kind (a.kind ∙ sym c.in_ok-kind.ensures) in
    (s.row.body, is.row.body, body_there s c.in_ok-kind.kind c.in-Some.rest.now is kind_is a.body))

pub returns-in-None : goal.returns-in-None
returns-in-None c = λ s is has.
    let a = common_there c.args.bytes.now c.in-Some.common c.in-Some.rest.now s c.in-Some.ensures is has.1 in
    let kind_is = code_kind (kind_of s.row) c.in_ok-kind.kind (a.kind ∙ sym c.in_ok-kind.ensures) in
    let time_is : s.row.time ≡ c.in_ok-time.time = a.time ∙ sym c.in_ok-time.ensures in
    let active_is : s.row.active ≡ c.in_ok-active.active = code_flag s.row.active c.in_ok-active.active (a.active ∙ sym c.in_ok-active.ensures) in
    let module_is : s.row.module_id ≡ c.in_ok-module_id.module_id = a.module_id ∙ sym c.in_ok-module_id.ensures in
    let body_is : s.row.body ≡ c.in_ok-body.body = one_body c.in_ok-kind.kind c.in-Some.rest.now s.row.body c.in_ok-body.body (body_there s c.in_ok-kind.kind c.in-Some.rest.now is kind_is a.body) c.in_ok-body.ensures in
    let same : s.row ≡ version c.in-Some.common.id c.in_ok-time.time c.in_ok-active.active c.in_ok-module_id.module_id c.in_ok-body.body = λ i. version (a.id i) (time_is i) (active_is i) (module_is i) (body_is i) in
    c.in-None.ensures (subst IsVersion same is.row)

pub returns-in-Some-of : goal.returns-in-Some-of
returns-in-Some-of c =
    let made : RowValue = version c.in-Some.common.id c.in_ok-time.time c.in_ok-active.active c.in_ok-module_id.module_id c.in_ok-body.body in
    let s : StampedRow = record { row = made; import = c.in_ok-import.import } in
    let fits : IsBytes c.args.bytes.now = λ i. omega (arith, c.type_inv.bytes i) in
    let parts = fields_some common_forms c.args.bytes.now (raw_common_fields c.in-Some.common, c.in-Some.rest.now) fits c.in-Some.ensures in
    let agrees : Agrees c.in-Some.common c.in-Some.rest.now s = record {
      kind = ap kind_code c.in_ok-body.ensures.0 ∙ c.in_ok-kind.ensures;
      id = refl;
      time = c.in_ok-time.ensures;
      import = c.in_ok-import.ensures.1;
      active = c.in_ok-active.ensures;
      module_id = c.in_ok-module_id.ensures;
      body = body_bytes c.in_ok-kind.kind c.in-Some.rest.now c.in_ok-body.body parts.rest_fits c.in_ok-body.ensures;
    } in
    let small : c.in_ok-import.import < 2 ^ 32 = omega (arith, c.in_ok-import.ensures.1) in
    let stamped : IsStamped s = record { row = c.in-Some-of.ensures.0; from_one = c.in_ok-import.ensures.0; fits = small } in
    let bytes = row_found c.args.bytes.now c.in-Some.common c.in-Some.rest.now s fits c.in-Some.ensures agrees in
    subst (λ (v : RowValue). IsRowIn c.args.bytes.now (record { row = v; import = c.in_ok-import.import })) (sym c.in-Some-of.ensures.1) (stamped, bytes)
