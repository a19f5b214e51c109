use Rattle.std.proofs.Common.{ap, ◌∙◌, List, ℕ, Ok}
use Rattle.std.proofs.lemmas.Result.{err_from_is_err_and}
use Rattle.question_model.specs.Questions.{Dates}
use Rattle.line_server.specs.ReplyValue.{Dates as TheDates, reply_value}
use Rattle.line_server.proofs.Responding.{index_found, index_unfound, index_untold}
use Rattle.line_server.proofs.queries.answer_dates.Goals as goal

pub returns-in_err-found : goal.returns-in_err-found
returns-in_err-found g c =
    let p = err_from_is_err_and c.from_residual.result c.from_residual.ensures.1 in
    let e = c.in_err-found.ensures.answer in
    rw (p.1, p.2, e.unchanged) (index_unfound g.D.Disk.view c.args.pin c.args.store.now Dates tt c.in_err-found.field-0.0 e.refused)

pub returns-in_err-reply_dates : goal.returns-in_err-reply_dates
returns-in_err-reply_dates g c =
    let p = err_from_is_err_and c.from_residual-in_err-reply_dates.result c.from_residual-in_err-reply_dates.ensures.1 in
    let e = c.in_ok-found.ensures.answer in
    rw (p.1, p.2, e.unchanged) (index_untold g.D.Disk.view c.args.pin c.args.store.now Dates tt e.found.0)

pub returns : goal.returns
returns g c =
    let e = c.in_ok-found.ensures.answer in
    rw e.unchanged (index_found g.D.Disk.view c.args.pin c.args.store.now Dates tt (TheDates c.in_ok-found.found.items) c.in_ok-reply_dates.field-0 e.found.0 (ap TheDates e.found.1)
    (c.in_ok-reply_dates.ensures ∙ ap (λ (xs : List ℕ). reply_value (Ok (TheDates xs))) c.deref.ensures.value))
