use Rattle.std.proofs.Common.{take}
use Rattle.as_of_index.specs.Private.Search.{changed_parts, ArePassed}
use Rattle.as_of_index.proofs.cursors.cursors_at.Given as goal

abbrev pub invariant-loop-list : goal.invariant-loop-list
invariant-loop-list l = ArePassed l.start (take l.list-index (changed_parts l.from l.as_of l.lists)) l.cursors.items
