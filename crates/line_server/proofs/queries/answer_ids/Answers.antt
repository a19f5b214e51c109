use Rattle.std.proofs.Common.{ap, refl, ◌∙◌, List, ℕ, Ok}
use Rattle.std.proofs.lemmas.Result.{err_from_is_err_and}
use Rattle.question_model.specs.Questions.{ForIds, id_question_of}
use Rattle.line_server.specs.ReplyValue.{Ids, reply_value}
use Rattle.line_server.proofs.Responding.{index_found, index_unfound, index_untold}
use Rattle.line_server.proofs.queries.answer_ids.Goals as goal

pub returns-in_err-found : goal.returns-in_err-found
returns-in_err-found g c =
    let p = err_from_is_err_and c.from_residual.result c.from_residual.ensures.1 in
    let e = c.in_err-found.ensures.answer in
    rw (p.1, p.2, e.unchanged) (index_unfound g.D.Disk.view c.args.pin c.args.store.now (ForIds (id_question_of c.args.question.now)) tt c.in_err-found.field-0.0 e.refused)

pub returns-in_err-reply_ids : goal.returns-in_err-reply_ids
returns-in_err-reply_ids g c =
    let p = err_from_is_err_and c.from_residual-in_err-reply_ids.result c.from_residual-in_err-reply_ids.ensures.1 in
    let e = c.in_ok-found.ensures.answer in
    rw (p.1, p.2, e.unchanged) (index_untold g.D.Disk.view c.args.pin c.args.store.now (ForIds (id_question_of c.args.question.now)) tt e.found.0)

pub returns : goal.returns
returns g c =
    let e = c.in_ok-found.ensures.answer in
    rw e.unchanged (index_found g.D.Disk.view c.args.pin c.args.store.now (ForIds (id_question_of c.args.question.now)) tt (Ids c.in_ok-found.found.items) c.in_ok-reply_ids.field-0 e.found.0 (c.in_ok-found.found.items, e.found.1, refl)
    (c.in_ok-reply_ids.ensures ∙ ap (λ (xs : List ℕ). reply_value (Ok (Ids xs))) c.deref.ensures.value))
