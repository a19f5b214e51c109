use Rattle.std.proofs.Common.{◌≡◌, ◌≤◌, take}
use Rattle.store_copy.specs.Copying.{end_from, lists_up_to}
use Rattle.store_copy.proofs.planning.check_room.Given as goal

-- where the segments so far end
abbrev pub invariant-loop-segment : goal.invariant-loop-segment
invariant-loop-segment l = record {
  first : l.first ≡ end_from 4 (lists_up_to l.imports (take l.segment-index l.segments));
  fits : l.first ≤ 4194304;
}
