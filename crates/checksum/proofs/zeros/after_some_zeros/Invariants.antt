use Rattle.std.proofs.Common.{◌≡◌, ◌*◌}
use Rattle.checksum.specs.Crc32c.{shifted_by}
use Rattle.checksum.proofs.zeros.after_some_zeros.Given as goal

abbrev pub invariant-loop-left : goal.invariant-loop-left
invariant-loop-left l = shifted_by (8 * l.left) l.reached ≡ shifted_by (8 * l.fn.zeros) l.fn.register

abbrev pub decreases-loop-left : goal.decreases-loop-left
decreases-loop-left l = l.left
