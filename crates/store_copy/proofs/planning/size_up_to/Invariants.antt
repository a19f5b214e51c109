use Rattle.std.proofs.Common.{◌≡◌, length, take}
use Rattle.segment.specs.Records.{segment_of}
use Rattle.store_copy.specs.Copying.{up_to}
use Rattle.store_copy.proofs.planning.size_up_to.Given as goal

-- those of the rows so far
abbrev pub invariant-loop-place : goal.invariant-loop-place
invariant-loop-place l = record {
  bytes : l.size.bytes ≡ length (segment_of (up_to l.imports (take l.place-index l.segment)));
  rows : l.size.rows ≡ length (up_to l.imports (take l.place-index l.segment));
}
