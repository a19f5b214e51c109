use Rattle.std.proofs.Common.{List, ℕ, sym, ◌∙◌, length}
use Rattle.std.specs.Borrow.{Bor}
use Rattle.std.proofs.lemmas.List.{length-map}
use Rattle.rf2_rows.specs.Private.{texts}
use Rattle.rf2_rows.proofs.AnyColumns.{kept, refused}
use Rattle.rf2_rows.proofs.columns.further.Goals as goal

pub returns-in-Some : goal.returns-in-Some
returns-in-Some c =
    kept c.in_ok-further.field-0 c.deref.result.now (texts c.args.columns.now) c.in-Some.further c.in-Some.is (c.deref.ensures.value ∙ c.in_ok-bytes.ensures) c.requires c.in_ok-further.ensures

pub returns : goal.returns
returns c =
    refused c.in_ok-further.field-0 c.deref.result.now (texts c.args.columns.now) (length c.args.columns.now) c.in-None.is (c.deref.ensures.value ∙ c.in_ok-bytes.ensures)
    (sym (length-map c.args.columns.now (λ (x : Bor (List ℕ)). x.now))) c.in_ok-further.ensures
