use Rattle.std.proofs.Common.{◌≡◌, ◌++◌, length}
use Rattle.std.specs.List.{AllByRecursion}
use Rattle.history_model.specs.InOrder.{IsAscending}
use Rattle.history_model.specs.History.{stamped_cmp}
use Rattle.segment.specs.Records.{segment_in, IsStamped}
use Rattle.segment.proofs.decoding.decode.Given as goal

abbrev pub invariant-loop-rest : goal.invariant-loop-rest
invariant-loop-rest l = record {
  bytes : l.fn.bytes ≡ segment_in l.fn.form l.rows.items ++ l.rest;
  each : AllByRecursion IsStamped l.rows.items;
  ascending : IsAscending stamped_cmp l.rows.items;
}

abbrev pub decreases-loop-rest : goal.decreases-loop-rest
decreases-loop-rest l = length l.rest
