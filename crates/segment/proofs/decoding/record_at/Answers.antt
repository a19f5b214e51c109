use Rattle.std.proofs.Common.{ℕ, ◌-◌, List, length, Err, subst, sym, ◌∙◌, arith}
use Rattle.std.proofs.lemmas.Result.{err_from_is_err_and}
use Rattle.segment.specs.Private.Finding.{FindsRecord}
use Rattle.segment.proofs.Places.{within, one_record, place_found}
use Rattle.segment.proofs.Decoded.{only_memory, record_stands}
use Rattle.segment.proofs.decoding.record_at.Goals as goal

pub returns-in_default-clause-only : goal.returns-in_default-clause-only
returns-in_default-clause-only c = λ s next is. let in_range = within c.args.form c.args.bytes.now c.args.place s next is in absurd (omega (arith, in_range, c.in_default.ensures.cases))

pub returns-in_err-row-clause-only : goal.returns-in_err-row-clause-only
returns-in_err-row-clause-only c = λ s next is.
    let none = subst (λ (l : List ℕ). FindsRecord c.args.form l (Err c.in_err-row.field-0.0)) c.in-Some.ensures.cases.2 c.in_err-row.ensures in
    only_memory c.from_residual.result _ c.in_err-row.field-0.0 (err_from_is_err_and c.from_residual.result c.from_residual.ensures.1) (record_stands c.args.form c.args.bytes.now c.args.place s next is c.in_err-row.field-0.0 none)

pub returns-clause-only : goal.returns-clause-only
returns-clause-only c = λ s next is.
    let there = c.in-Some.ensures.cases in
    let found = place_found c.args.form c.args.bytes.now c.args.place c.in_ok-row.row c.in_ok-row.after.now there.0 c.in_ok-row.ensures.0 (sym there.2 ∙ c.in_ok-row.ensures.1) in
    one_record c.args.form c.args.bytes.now c.args.place c.in_ok-row.row s (length c.args.bytes.now - length c.in_ok-row.after.now) next found is

pub returns-clause-found : goal.returns-clause-found
returns-clause-found c =
    let there = c.in-Some.ensures.cases in
    place_found c.args.form c.args.bytes.now c.args.place c.in_ok-row.row c.in_ok-row.after.now there.0 c.in_ok-row.ensures.0 (sym there.2 ∙ c.in_ok-row.ensures.1)
