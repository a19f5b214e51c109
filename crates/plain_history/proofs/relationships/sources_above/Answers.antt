use Rattle.std.proofs.Common.{ap, ◌∙◌}
use Rattle.std.specs.List.{filter}
use Rattle.std.specs.Ordering.{nat_cmp}
use Rattle.std.proofs.lemmas.Result.{IfOk-weaker}
use Rattle.history_model.specs.InOrder.{in_order}
use Rattle.history_model.specs.Queries.{is_above, source_of, snapshot}
use Rattle.history_model.specs.Relationships.{leads_to, all_sources, sources_above}
use Rattle.plain_history.proofs.Listed.{filter_map_if_so}
use Rattle.plain_history.proofs.relationships.sources_above.Goals as goal

pub returns : goal.returns
unfolding sources_above all_sources
returns c =
    let a = c.args in
    IfOk-weaker c.those_above.result _ _ (λ found is. is
    ∙ ap (filter (is_above a.after)) (c.deref-2.ensures.value ∙ c.in_ok-ordered.ensures
    ∙ ap (in_order nat_cmp) (c.deref.ensures.value ∙ c.in_ok-found.ensures ∙ filter_map_if_so (leads_to a.type_id a.destination) (λ row. source_of row.body) (snapshot a.rows.now a.date))))
    c.those_above.ensures
