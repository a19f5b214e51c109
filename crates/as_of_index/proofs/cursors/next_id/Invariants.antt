use Rattle.std.proofs.Common.{take}
use Rattle.as_of_index.specs.declared.search.Start.TheVariants.{Components}
use Rattle.as_of_index.specs.Private.Search.{all_places, changed_parts, ArePassed, IsNextChanged}
use Rattle.as_of_index.proofs.cursors.next_id.Given as goal

abbrev pub invariant-loop-segment : goal.invariant-loop-segment
invariant-loop-segment l = record {
  passed : ArePassed (Components l.kind l.fn.after) (changed_parts l.from l.as_of l.lists) l.cursors.items;
  next : IsNextChanged l.kind l.fn.after l.from l.as_of (all_places 0 (take l.segment l.lists)) l.best;
}
