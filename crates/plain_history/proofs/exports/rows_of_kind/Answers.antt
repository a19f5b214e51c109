use Rattle.std.proofs.Common.{rules, tests}
use Rattle.std.proofs.lemmas.Iterator.{YieldsList-from_slice, YieldsList-from_take}
use Rattle.std.proofs.lemmas.Iterator.Consumers.{YieldsList-from_filter, YieldsList-at, map_from_collect}
use Rattle.history_model.specs.Exports.{is_kind_after, all_of_kind, rows_of_kind}
use Rattle.plain_history.proofs.exports.rows_of_kind.Goals as goal

pub returns : goal.returns
unfolding rows_of_kind all_of_kind
returns c =
    let a = c.args in
    map_from_collect _ c.collect.ensures.ran
    (YieldsList-from_take a.limit (YieldsList-at c.take.ensures.source
    (YieldsList-from_filter _ (is_kind_after a.kind a.after) (YieldsList-from_slice a.rows.now (cc)) c.filter.ensures.closure (λ x r q k. search (rules, tests))))
    c.take.ensures.count)
