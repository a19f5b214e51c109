use Rattle.std.proofs.Common.{refl, ap, ◌∙◌}
use Rattle.std.proofs.lemmas.Result.{on_ok_weaker}
use Rattle.rf2_values.specs.Row.{RowValue, version}
use Rattle.segment.specs.Records.{kind_code, active_code}
use Rattle.segment.proofs.RecordLaws.{row_fits, fields_appended}
use Rattle.segment.proofs.encoding.put_fields.Goals as goal

pub put_body-requires : goal.put_body-requires
put_body-requires c = row_fits (version c.row.inside.id c.row.inside.time c.row.inside.active c.row.inside.module_id c.row.inside.body) c.row.invariant

pub returns-clause-bytes : goal.returns-clause-bytes
returns-clause-bytes c =
    let is = c.row.view_is in
    on_ok_weaker c.put_body.result
    (λ last. fields_appended c.args.stamped.now _ _ _ _ _ _ c.row.inside.body
    (c.code_of.ensures ∙ ap kind_code c.kind.ensures.kind) (ap (λ (v : RowValue). v.id) is) (c.value.ensures.value ∙ ap (λ (v : RowValue). v.time) is) refl
    (c.code_of_active.ensures ∙ ap (λ (v : RowValue). active_code v.active) is) (c.value-2.ensures.value ∙ ap (λ (v : RowValue). v.module_id) is) (ap (λ (v : RowValue). v.body) is)
    _ _ _ _ _ _ _ _
    c.in_ok-put_u8.ensures c.in_ok-put_u128.ensures c.in_ok-put_u32.ensures c.in_ok-put_u32-2.ensures c.in_ok-put_u8-2.ensures c.in_ok-put_u64.ensures last)
    c.put_body.ensures
