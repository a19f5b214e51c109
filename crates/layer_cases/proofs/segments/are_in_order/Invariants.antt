use Rattle.std.proofs.Common.{◌≤◌, take}
use Rattle.std.specs.List.{AllByRecursion}
use Rattle.history_model.specs.InOrder.{IsAscending}
use Rattle.history_model.specs.History.{stamped_cmp}
use Rattle.layer_cases.proofs.segments.are_in_order.Given as goal

abbrev pub invariant-loop-i : goal.invariant-loop-i
invariant-loop-i l = record {
  ascending : IsAscending stamped_cmp (take l.i l.rows);
  from_one : AllByRecursion (λ s. 1 ≤ s.import) (take l.i l.rows);
}
