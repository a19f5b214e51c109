use Rattle.std.proofs.Common.{◌≡◌, List, ◌++◌, length}
use Rattle.rf2_values.specs.Row.{RowValue}
use Rattle.history_model.specs.Queries.{all_above}
use Rattle.snapshot_check.specs.Differences.{shown_of_kind}
use Rattle.snapshot_check.specs.Private.{IsSortedSeen, AddsMore}
use Rattle.snapshot_check.proofs.more.add_kind.Given as goal

abbrev pub invariant-pages : goal.invariant-pages
invariant-pages g l = record {
  adds : (done : List RowValue)
      × (shown_of_kind (g.S.Shown.at_date l.fn.shown) l.fn.kind ≡ done ++ all_above l.fn.kind (g.S.Shown.at_date l.fn.shown).date l.after (g.S.Shown.at_date l.fn.shown).rows)
      × ((rows : List RowValue) → IsSortedSeen rows l.fn.seen → AddsMore (g.S.Shown.reads l.fn.shown) rows done l.fn.limit l.fn.more l.more);
  stays : g.S.Shown.stays l.fn.shown l.shown;
}

abbrev pub decreases-pages : goal.decreases-pages
decreases-pages g l = length (all_above l.fn.kind (g.S.Shown.at_date l.fn.shown).date l.after (g.S.Shown.at_date l.fn.shown).rows)
