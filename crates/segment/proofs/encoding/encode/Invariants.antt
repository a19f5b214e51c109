use Rattle.std.proofs.Common.{◌≡◌, take}
use Rattle.std.specs.List.{AllByRecursion}
use Rattle.segment.specs.Records.{segment_in, IsStamped}
use Rattle.segment.proofs.encoding.encode.Given as goal

abbrev pub invariant-loop-stamped : goal.invariant-loop-stamped
invariant-loop-stamped l = record {
  bytes : l.out.items ≡ segment_in l.fn.form (take l.stamped-index l.rows);
  each : AllByRecursion IsStamped (take l.stamped-index l.rows);
}
