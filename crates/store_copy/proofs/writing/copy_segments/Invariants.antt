use Rattle.std.proofs.Common.{◌≡◌, ◌↔◌, ◌+◌, ◌≤◌, length, take}
use Rattle.disk_model.specs.Disk.{EachImage, LeavesOnly}
use Rattle.store_image.specs.Pieces.{HoldsAll}
use Rattle.store_image.specs.Kept.{AreSegments, bytes_listed, pieces_of}
use Rattle.store_copy.specs.Copying.{entries_from, lists_up_to}
use Rattle.blocks.specs.Slots.{IsShut}
use Rattle.store_copy.proofs.Planned.{IsExact, SoFar}
use Rattle.store_copy.proofs.writing.copy_segments.Given as goal

-- the segments so far are written and listed
abbrev pub invariant-loop-i : goal.invariant-loop-i
invariant-loop-i g l = record {
  source : (g.S.Disk.view l.initial.source).is_honest ↔ (g.S.Disk.view l.source).is_honest;
  target : (g.T.Disk.view l.initial.target).is_honest ↔ (g.T.Disk.view l.target).is_honest;
  moments : (g.S.Disk.view l.initial.source).is_honest → (g.S.Disk.view l.source).moments ≡ (g.S.Disk.view l.initial.source).moments;
  source_failures : (g.S.Disk.view l.source).failures ≡ (g.S.Disk.view l.initial.source).failures;
  target_failures : (g.T.Disk.view l.target).failures ≡ (g.T.Disk.view l.initial.target).failures;
  other_calls : (g.S.Disk.view l.source).other_calls ≡ (g.S.Disk.view l.initial.source).other_calls;
  bytes_read : (g.T.Disk.view l.target).bytes_read ≡ (g.T.Disk.view l.initial.target).bytes_read;
  requested : (g.S.Disk.view l.source).bytes_read ≤ (g.S.Disk.view l.initial.source).bytes_read + bytes_listed (take l.i l.from);
  so_far : SoFar l.initial.copy.layout l.initial.copy.imports l.segments l.i l.copy l.first;
  long : (g.T.Disk.view l.initial.target).is_honest → length (g.T.Disk.view l.initial.target).moments.state.now ≤ length (g.T.Disk.view l.target).moments.state.now;
  run : (g.T.Disk.view l.initial.target).is_honest → EachImage (g.T.Disk.view l.initial.target).moments.state IsShut → LeavesOnly (g.T.Disk.view l.initial.target).moments (g.T.Disk.view l.target).moments IsShut;
  exact : (g.S.Disk.view l.initial.source).is_honest → (g.T.Disk.view l.initial.target).is_honest → AreSegments l.from l.segments → HoldsAll (pieces_of l.from l.segments) (g.S.Disk.view l.initial.source).moments.state.now
      → IsExact l.initial.copy.layout l.initial.copy.imports l.segments l.i l.copy;
  held : (g.S.Disk.view l.initial.source).is_honest → (g.T.Disk.view l.initial.target).is_honest → AreSegments l.from l.segments → HoldsAll (pieces_of l.from l.segments) (g.S.Disk.view l.initial.source).moments.state.now
      → HoldsAll (pieces_of (entries_from l.initial.copy.layout 4 (lists_up_to l.initial.copy.imports (take l.i l.segments))) (lists_up_to l.initial.copy.imports (take l.i l.segments))) (g.T.Disk.view l.target).moments.state.now;
}
