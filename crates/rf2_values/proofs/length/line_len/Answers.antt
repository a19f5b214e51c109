use Rattle.std.proofs.Common.{◌≡◌, ℕ, ◌+◌, length, sym, ap, ◌∙◌, arith}
use Rattle.std.specs.Prelude.{decimal}
use Rattle.rf2_values.specs.declared.row.Kind.{Kind}
use Rattle.rf2_values.specs.Private.{columns_len}
use Rattle.rf2_values.specs.Row.{version, canonical, id_text, later_columns, kind_of_body}
use Rattle.rf2_values.proofs.Lengths.{length-line, length-flag}
use Rattle.rf2_values.proofs.length.line_len.Goals as goal

pub returns : goal.returns
returns c =
    let a = c.args in
    let v = version a.id a.time a.active a.module_id a.body.now in
    let whole : length (canonical v) ≡ length (id_text (kind_of_body a.body.now) a.id) + columns_len (later_columns v) = length-line (id_text (kind_of_body a.body.now) a.id) (later_columns v) in
    let id : c.id_len.result ≡ length (id_text (kind_of_body a.body.now) a.id) = c.id_len.ensures.value ∙ ap (λ (k : Kind). length (id_text k a.id)) c.kind.ensures in
    let time : c.number_len.result ≡ length (decimal a.time) + 1 = c.number_len.ensures.value ∙ ap (λ (n : ℕ). length (decimal n) + 1) (c.from.ensures ∙ c.value.ensures.value) in
    let modul : c.number_len-2.result ≡ length (decimal a.module_id) + 1 = c.number_len-2.ensures.value ∙ ap (λ (n : ℕ). length (decimal n) + 1) c.value-2.ensures.value in
    let parts : c.id_len.result + c.number_len.result + 2 + c.number_len-2.result + c.body_len.result ≡ length (id_text (kind_of_body a.body.now) a.id) + columns_len (later_columns v) =
    omega (arith, id, time, modul, length-flag a.active, c.body_len.ensures.value) in
    parts ∙ sym whole
