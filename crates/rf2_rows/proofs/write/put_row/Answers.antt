use Rattle.std.proofs.Common.{◌≡◌, ℕ, List, ◌∷◌, ◌++◌, sym, ap, ◌∙◌}
use Rattle.std.specs.Prelude.{decimal}
use Rattle.rf2_values.specs.declared.row.Kind.{Kind}
use Rattle.rf2_values.specs.Private.{tabbed}
use Rattle.rf2_values.specs.Row.{RowValue, canonical, flag, id_text, kind_of, kind_of_body, body_columns}
use Rattle.rf2_rows.proofs.Written.{line_put}
use Rattle.rf2_rows.proofs.write.put_row.Goals as goal

pub returns-clause-ok : goal.returns-clause-ok
returns-clause-ok c =
    let r = c.row.inside in
    let start = c.args.line.now.items in
    let id = id_text (kind_of_body r.body) r.id in
    let kind_is : c.kind.result ≡ kind_of_body r.body = c.kind.ensures.kind ∙ ap (λ (v : RowValue). kind_of v) (sym c.row.view_is) in
    let one : c.put_id.new.line.items ≡ start ++ id = c.in_ok-put_id.ensures.ok ∙ ap (λ (k : Kind). start ++ id_text k r.id) kind_is in
    let two : c.put_number.new.line.items ≡ (start ++ id) ++ 9 ∷ decimal r.time =
    c.in_ok-put_number.ensures.ok ∙ ap (λ (t : List ℕ). t ++ 9 ∷ decimal c.from.result) one ∙ ap (λ (n : ℕ). (start ++ id) ++ 9 ∷ decimal n) (c.from.ensures ∙ c.value.ensures.value) in
    let three : c.put_flag.new.line.items ≡ ((start ++ id) ++ 9 ∷ decimal r.time) ++ 9 ∷ flag r.active = c.in_ok-put_flag.ensures.ok ∙ ap (λ (t : List ℕ). t ++ 9 ∷ flag r.active) two in
    let four : c.put_number-2.new.line.items ≡ (((start ++ id) ++ 9 ∷ decimal r.time) ++ 9 ∷ flag r.active) ++ 9 ∷ decimal r.module_id =
    c.in_ok-put_number-2.ensures.ok ∙ ap (λ (t : List ℕ). t ++ 9 ∷ decimal c.value-2.result) three ∙ ap (λ (n : ℕ). (((start ++ id) ++ 9 ∷ decimal r.time) ++ 9 ∷ flag r.active) ++ 9 ∷ decimal n) c.value-2.ensures.value in
    c.in_ok-put_own.ensures.ok ∙ ap (λ (t : List ℕ). t ++ tabbed (body_columns r.body)) four
    ∙ line_put start id (decimal r.time) (flag r.active) (decimal r.module_id) (body_columns r.body)
    ∙ ap (λ (v : RowValue). start ++ canonical v) c.row.view_is
