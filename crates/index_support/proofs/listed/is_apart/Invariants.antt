use Rattle.std.proofs.Common.{take}
use Rattle.std.specs.List.{AllByRecursion}
use Rattle.as_of_index.specs.Private.Search.{ShareNoKey}
use Rattle.index_support.proofs.listed.is_apart.Given as goal

abbrev pub invariant-loop-i : goal.invariant-loop-i
invariant-loop-i l = AllByRecursion (λ places. ShareNoKey places l.list) (take l.i l.index)
