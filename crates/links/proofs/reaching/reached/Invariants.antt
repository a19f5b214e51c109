use Rattle.std.proofs.Common.{take, List, ◌-◌, ◌^◌}
use Rattle.history_model.specs.declared.stamped.StampedRow.{StampedRow}
use Rattle.history_model.proofs.Searched.{IsSearched}
use Rattle.as_of_index.specs.Current.{rows_seen}
use Rattle.as_of_index.specs.Places.{Lists}
use Rattle.links.specs.Laws.{EachPosted}
use Rattle.links.specs.Private.{AreSeen, next_ones}
use Rattle.links.proofs.reaching.reached.Given as goal

-- the concepts before i are done
abbrev pub invariant-loop-i : goal.invariant-loop-i
invariant-loop-i l = record {
  searched : (lists : List (List StampedRow)) → Lists l.index lists → EachPosted lists l.links
      → IsSearched (next_ones l.direction l.as_of.date (rows_seen l.as_of lists)) l.from (take l.i l.found.items) l.found.items;
  seen : AreSeen l.seen l.found.items;
}

abbrev pub decreases-loop-i : goal.decreases-loop-i
decreases-loop-i l = 2 ^ 64 - l.i
