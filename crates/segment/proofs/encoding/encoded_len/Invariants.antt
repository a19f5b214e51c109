use Rattle.std.proofs.Common.{◌≡◌, ◌-◌, ◌^◌, min, length, take}
use Rattle.segment.specs.Records.{segment_of}
use Rattle.segment.proofs.encoding.encoded_len.Given as goal

abbrev pub invariant-loop-stamped : goal.invariant-loop-stamped
invariant-loop-stamped l = l.len ≡ min (length (segment_of (take l.stamped-index l.rows))) (2 ^ 64 - 1)
