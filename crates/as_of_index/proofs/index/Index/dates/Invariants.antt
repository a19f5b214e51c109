use Rattle.std.proofs.Common.{take}
use Rattle.as_of_index.specs.Private.Search.{all_places}
use Rattle.as_of_index.proofs.DatesOfAll.{AreTimes}
use Rattle.as_of_index.proofs.index.Index.dates.Given as goal

-- the times of the lists so far
abbrev pub invariant-loop-list : goal.invariant-loop-list
invariant-loop-list l = AreTimes l.pin (all_places 0 (take l.list-index l.self)) l.times.items
