use Rattle.std.proofs.Common.{rules, tests}
use Rattle.std.proofs.lemmas.Iterator.{YieldsList-from_slice, YieldsList-from_take}
use Rattle.std.proofs.lemmas.Iterator.Consumers.{YieldsList-from_filter, YieldsList-at, map_from_collect}
use Rattle.history_model.specs.Queries.{is_current, is_changed_above, snapshot, changed_above, delta}
use Rattle.plain_history.proofs.audit.delta.Goals as goal

pub returns : goal.returns
unfolding delta changed_above snapshot
returns c =
    let a = c.args in
    map_from_collect _ c.collect.ensures.ran
    (YieldsList-from_take a.limit (YieldsList-at c.take.ensures.source
    (YieldsList-from_filter _ (is_changed_above a.kind a.from a.after) (YieldsList-at c.filter-2.ensures.source
    (YieldsList-from_filter _ (is_current a.rows.now a.date) (YieldsList-from_slice a.rows.now (cc)) c.filter.ensures.closure (λ x r q k. search (rules, tests))))
    c.filter-2.ensures.closure (λ x r q k. search (rules, tests))))
    c.take.ensures.count)
