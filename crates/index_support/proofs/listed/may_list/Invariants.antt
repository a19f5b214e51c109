use Rattle.std.proofs.Common.{take}
use Rattle.history_model.specs.InOrder.{IsAscending}
use Rattle.as_of_index.specs.Places.{place_cmp}
use Rattle.index_support.proofs.listed.may_list.Given as goal

abbrev pub invariant-loop-i : goal.invariant-loop-i
invariant-loop-i l = IsAscending place_cmp (take l.i l.list)
