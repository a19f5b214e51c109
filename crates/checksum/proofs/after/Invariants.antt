use Rattle.std.proofs.Common.{◌≡◌, length}
use Rattle.std.specs.List.{fold}
use Rattle.checksum.specs.Crc32c.{with_byte}
use Rattle.checksum.proofs.after.Given as goal

abbrev pub invariant-loop-sixteen : goal.invariant-loop-sixteen
invariant-loop-sixteen l = fold with_byte l.reached l.rest ≡ fold with_byte l.fn.register l.fn.bytes

abbrev pub decreases-loop-sixteen : goal.decreases-loop-sixteen
decreases-loop-sixteen l = length l.rest
