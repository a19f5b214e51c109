use Rattle.std.proofs.Common.{ap, ◌∙◌, List, Ok}
use Rattle.std.proofs.lemmas.Result.{err_from_is_err_and}
use Rattle.rf2_values.specs.Row.{RowValue}
use Rattle.question_model.specs.Questions.{row_question_of}
use Rattle.line_server.specs.ReplyValue.{Rows, reply_value}
use Rattle.line_server.proofs.Queried.{rows_found, rows_unfound, rows_untold, unlacking}
use Rattle.line_server.proofs.queries.answer_rows.Goals as goal

pub returns-in_err-found : goal.returns-in_err-found
returns-in_err-found g c =
    let p = err_from_is_err_and c.from_residual.result c.from_residual.ensures.1 in
    rw (p.1, p.2) (unlacking g.D.Disk.view (row_question_of c.args.question.now) c.args.pin c.args.store.now c.select.new.self _ (λ e. rows_unfound g.D.Disk.view (row_question_of c.args.question.now) c.args.pin c.args.store.now c.select.new.self c.in_err-found.field-0.0 (c.in_err-found.ensures.answer e)))

pub returns-in_err-reply_rows : goal.returns-in_err-reply_rows
returns-in_err-reply_rows g c =
    let p = err_from_is_err_and c.from_residual-in_err-reply_rows.result c.from_residual-in_err-reply_rows.ensures.1 in
    rw (p.1, p.2) (unlacking g.D.Disk.view (row_question_of c.args.question.now) c.args.pin c.args.store.now c.select.new.self _ (λ e. rows_untold g.D.Disk.view (row_question_of c.args.question.now) c.args.pin c.args.store.now c.select.new.self c.in_ok-found.found (c.in_ok-found.ensures.answer e)))

pub returns : goal.returns
returns g c =
    unlacking g.D.Disk.view (row_question_of c.args.question.now) c.args.pin c.args.store.now c.select.new.self _ (λ e.
    rows_found g.D.Disk.view (row_question_of c.args.question.now) c.args.pin c.args.store.now c.select.new.self c.in_ok-found.found c.in_ok-reply_rows.field-0 (c.in_ok-found.ensures.answer e)
    (c.in_ok-reply_rows.ensures ∙ ap (λ (xs : List RowValue). reply_value (Ok (Rows xs))) c.deref.ensures.value))
