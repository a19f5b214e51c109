use Rattle.std.proofs.Common.{◌≡◌, take}
use Rattle.rf2_values.specs.Private.{tabbed}
use Rattle.rf2_rows.specs.Private.{texts}
use Rattle.rf2_rows.proofs.columns.join.Given as goal

abbrev pub invariant-loop-column : goal.invariant-loop-column
invariant-loop-column l = l.bytes.items ≡ tabbed (texts (take l.column-index l.columns))
