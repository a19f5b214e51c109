use Rattle.std.proofs.Common.{◌≡◌, length}
use Rattle.std.specs.List.{fold}
use Rattle.checksum.specs.Crc32c.{with_byte}
use Rattle.checksum.proofs.after_pairs.Given as goal

abbrev pub invariant-loop-two : goal.invariant-loop-two
invariant-loop-two l = fold with_byte l.reached l.rest ≡ fold with_byte l.fn.register l.fn.bytes

abbrev pub decreases-loop-two : goal.decreases-loop-two
decreases-loop-two l = length l.rest
