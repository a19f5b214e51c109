use Rattle.std.proofs.Common.{◌≡◌, ◌↔◌, ◌+◌, ◌≤◌, [], ◌∷◌, length, take}
use Rattle.disk_model.specs.Disk.{LeavesOnly}
use Rattle.blocks.specs.Extents.{byte_range}
use Rattle.blocks.specs.Outside.{SameOutside, StemsWithin}
use Rattle.segment.specs.Records.{segment_of}
use Rattle.store_image.specs.Reader.{HasSeen, Reads, bytes_asked, next_place}
use Rattle.store_copy.specs.Copying.{up_to}
use Rattle.store_copy.specs.Private.Writing.{ArePending, IsSegmentAt}
use Rattle.store_copy.proofs.writing.copy_segment.Given as goal

-- the rows so far are read, and those of the first imports are written, or pending
abbrev pub invariant-loop-place : goal.invariant-loop-place
invariant-loop-place g l = record {
  source : (g.S.Disk.view l.initial.source).is_honest ↔ (g.S.Disk.view l.source).is_honest;
  target : (g.T.Disk.view l.initial.target).is_honest ↔ (g.T.Disk.view l.target).is_honest;
  moments : (g.S.Disk.view l.initial.source).is_honest → (g.S.Disk.view l.source).moments ≡ (g.S.Disk.view l.initial.source).moments;
  source_failures : (g.S.Disk.view l.source).failures ≡ (g.S.Disk.view l.initial.source).failures;
  target_failures : (g.T.Disk.view l.target).failures ≡ (g.T.Disk.view l.initial.target).failures;
  other_calls : (g.S.Disk.view l.source).other_calls ≡ (g.S.Disk.view l.initial.source).other_calls;
  bytes_read : (g.T.Disk.view l.target).bytes_read ≡ (g.T.Disk.view l.initial.target).bytes_read;
  reads : Reads l.reader l.fn.from;
  place : next_place l.reader ≡ length (segment_of (take l.place-index l.segment));
  seen : (g.S.Disk.view l.initial.source).is_honest → HasSeen l.reader (g.S.Disk.view l.initial.source).moments.state.now;
  requested : (g.S.Disk.view l.source).bytes_read ≤ (g.S.Disk.view l.initial.source).bytes_read + bytes_asked l.reader;
  len : l.pending.written + length l.pending.bytes.items ≡ length (segment_of (up_to l.imports (take l.place-index l.segment)));
  run : (g.T.Disk.view l.initial.target).is_honest → LeavesOnly (g.T.Disk.view l.initial.target).moments (g.T.Disk.view l.target).moments (StemsWithin (g.T.Disk.view l.initial.target).moments.state (byte_range l.to));
  elsewhere : (g.T.Disk.view l.initial.target).is_honest → SameOutside (byte_range l.to ∷ []) (g.T.Disk.view l.initial.target).moments.state.now (g.T.Disk.view l.target).moments.state.now;
  pending : (g.S.Disk.view l.initial.source).is_honest → (g.T.Disk.view l.initial.target).is_honest → IsSegmentAt (g.S.Disk.view l.initial.source).moments.state.now l.fn.from l.segment
      → ArePending l.form l.to (up_to l.imports (take l.place-index l.segment)) l.pending.written l.pending.crc l.pending.bytes.items (g.T.Disk.view l.target).moments.state.now;
}
