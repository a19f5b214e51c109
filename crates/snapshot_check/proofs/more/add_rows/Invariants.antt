use Rattle.std.proofs.Common.{◌≡◌, List, ◌++◌}
use Rattle.std.specs.Prelude.{None}
use Rattle.rf2_values.specs.Row.{RowValue}
use Rattle.history_model.specs.Laws.{last_id}
use Rattle.snapshot_check.specs.Private.{IsSortedSeen, AddsThose}
use Rattle.snapshot_check.proofs.more.add_rows.Given as goal

abbrev pub invariant-loop-row : goal.invariant-loop-row
invariant-loop-row l = (done : List RowValue) × (l.fn.page.items ≡ done ++ l.row-iterator) × (l.last ≡ last_id None done)
    × ((rows : List RowValue) → IsSortedSeen rows l.fn.seen → AddsThose rows done l.fn.limit l.fn.more l.more)
