use Rattle.std.proofs.Common.{map, sym, ap, ◌∙◌}
use Rattle.std.specs.List.{filter}
use Rattle.std.proofs.lemmas.Result.{IfOk-weaker}
use Rattle.history_model.specs.Queries.{is_among_first, values}
use Rattle.plain_history.proofs.Listed.{filter_of_map}
use Rattle.plain_history.proofs.membership.values.Goals as goal

pub returns : goal.returns
unfolding values
returns c =
    let a = c.args in
    let rows = c.deref.result.now in
    IfOk-weaker c.first_with_ties.result _ _ (λ found is.
    ap (map (λ r. r.now)) is
    ∙ sym (filter_of_map (λ r. r.now) (is_among_first a.limit (map (λ r. r.now) rows)) rows)
    ∙ ap (λ xs. filter (is_among_first a.limit xs) xs) (ap (map (λ r. r.now)) c.deref.ensures.value ∙ c.in_ok-all.ensures)) c.first_with_ties.ensures
