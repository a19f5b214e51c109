use Rattle.std.proofs.Common.{◌≡◌, ℕ, ◌-◌, ◌^◌, min, length, take}
use Rattle.history_model.specs.History.{stamped}
use Rattle.segment.specs.Records.{segment_of}
use Rattle.segment.proofs.encoding.rows_len.Given as goal

abbrev pub invariant-loop-row : goal.invariant-loop-row
invariant-loop-row l = (import : ℕ) → l.bytes ≡ min (length (segment_of (stamped import (take l.row-index l.rows)))) (2 ^ 64 - 1)
