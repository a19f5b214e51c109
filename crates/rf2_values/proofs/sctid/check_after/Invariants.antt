use Rattle.std.proofs.Common.{◌≡◌, ◌<◌, ◌≤◌, ◌+◌, ◌*◌}
use Rattle.rf2_values.specs.Sctid.{check_from}
use Rattle.rf2_values.proofs.Digits.{from_right}
use Rattle.rf2_values.proofs.sctid.check_after.Given as goal

abbrev pub invariant-loop-rest : goal.invariant-loop-rest
invariant-loop-rest l = record {
  checked : check_from (2 * l.pair) l.check (from_right l.rest) ≡ check_from (2 * l.pairs) l.before (from_right l.digits);
  small : l.check < 10;
  pairs : l.pair + l.rest ≤ l.pairs + l.digits;
}

abbrev pub decreases-loop-rest : goal.decreases-loop-rest
decreases-loop-rest l = l.rest
