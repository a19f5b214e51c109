use Rattle.std.proofs.Common.{rules, tests}
use Rattle.std.proofs.lemmas.Iterator.{YieldsList-from_slice, YieldsList-from_take}
use Rattle.std.proofs.lemmas.Iterator.Consumers.{YieldsList-from_filter, YieldsList-at, map_from_collect}
use Rattle.history_model.specs.Queries.{is_current, is_member_above, snapshot, members_above, members}
use Rattle.plain_history.proofs.membership.members.Goals as goal

pub returns : goal.returns
unfolding members members_above snapshot
returns c =
    let a = c.args in
    map_from_collect _ c.collect.ensures.ran
    (YieldsList-from_take a.limit (YieldsList-at c.take.ensures.source
    (YieldsList-from_filter _ (is_member_above a.refset a.after) (YieldsList-at c.filter-2.ensures.source
    (YieldsList-from_filter _ (is_current a.rows.now a.date) (YieldsList-from_slice a.rows.now (cc)) c.filter.ensures.closure (λ x r q k. search (rules, tests))))
    c.filter-2.ensures.closure (λ x r q k. search (rules, tests))))
    c.take.ensures.count)
