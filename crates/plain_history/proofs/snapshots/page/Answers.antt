use Rattle.std.proofs.Common.{rules, tests}
use Rattle.std.proofs.lemmas.Iterator.{YieldsList-from_slice, YieldsList-from_take}
use Rattle.std.proofs.lemmas.Iterator.Consumers.{YieldsList-from_filter, YieldsList-at, map_from_collect}
use Rattle.history_model.specs.Queries.{is_current, is_kind_above, snapshot, all_above, page}
use Rattle.plain_history.proofs.snapshots.page.Goals as goal

pub returns : goal.returns
unfolding page all_above snapshot
returns c =
    let a = c.args in
    map_from_collect _ c.collect.ensures.ran
    (YieldsList-from_take a.limit (YieldsList-at c.take.ensures.source
    (YieldsList-from_filter _ (is_kind_above a.kind a.after) (YieldsList-at c.filter-2.ensures.source
    (YieldsList-from_filter _ (is_current a.rows.now a.date) (YieldsList-from_slice a.rows.now (cc)) c.filter.ensures.closure (λ x r q k. search (rules, tests))))
    c.filter-2.ensures.closure (λ x r q k. search (rules, tests))))
    c.take.ensures.count)
