use Rattle.std.proofs.lemmas.Result.{err_from_is_err_and}
use Rattle.index_answers.proofs.Kept.{told_as, refused_as, lacking}
use Rattle.index_answers.proofs.selecting.get.Goals as goal

pub returns-clause-answer : goal.returns-clause-answer
returns-clause-answer g c = told_as (λ rows. rows.items) c.in_ok-found.found c.in_ok-as_list.field-0 c.in_ok-as_list.ensures c.in_ok-found.ensures.answer

pub returns-in_err-found-clause-answer : goal.returns-in_err-found-clause-answer
returns-in_err-found-clause-answer g c =
    let p = err_from_is_err_and c.from_residual.result c.from_residual.ensures.1 in
    rw (p.1, p.2) (refused_as (λ rows. rows.items) c.in_err-found.field-0.0 c.in_err-found.ensures.answer)

pub returns-in_err-as_list-clause-answer : goal.returns-in_err-as_list-clause-answer
returns-in_err-as_list-clause-answer g c =
    let p = err_from_is_err_and c.from_residual-in_err-as_list.result c.from_residual-in_err-as_list.ensures.1 in
    rw (p.1, p.2) (lacking (λ rows. rows.items) c.in_ok-found.found c.in_ok-found.ensures.answer)
