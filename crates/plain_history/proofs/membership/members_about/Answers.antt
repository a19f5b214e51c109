use Rattle.std.proofs.Common.{rules, tests}
use Rattle.std.proofs.lemmas.Iterator.{YieldsList-from_slice}
use Rattle.std.proofs.lemmas.Iterator.Consumers.{YieldsList-from_filter, YieldsList-at, map_from_collect}
use Rattle.rf2_values.specs.declared.row.Kind.TheVariants.{Member}
use Rattle.history_model.specs.Queries.{is_current, is_about, is_member_of, snapshot, about, members_about}
use Rattle.plain_history.proofs.membership.members_about.Goals as goal

pub returns : goal.returns
unfolding members_about about snapshot
returns c =
    let a = c.args in
    map_from_collect _ c.collect.ensures.ran
    (YieldsList-from_filter _ (λ row. is_member_of a.refset row.body) (YieldsList-at c.filter-3.ensures.source
    (YieldsList-from_filter _ (is_about Member a.id) (YieldsList-at c.filter-2.ensures.source
    (YieldsList-from_filter _ (is_current a.rows.now a.date) (YieldsList-from_slice a.rows.now (cc)) c.filter.ensures.closure (λ x r q k. search (rules, tests))))
    c.filter-2.ensures.closure (λ x r q k. search (rules, tests))))
    c.filter-3.ensures.closure (λ x r q k. search (rules, tests)))
