use Rattle.std.specs.Prelude.{map}
use Rattle.std.specs.List.{AllByRecursion}
use Rattle.std.proofs.Common.{◌≡◌, ◌↔◌, ◌+◌, ◌≤◌, take}
use Rattle.disk_model.specs.Disk.{raised_by}
use Rattle.store_image.specs.Pieces.{HoldsAll}
use Rattle.store_image.specs.Kept.{AreSegments, AreSummed, bytes_listed, pieces_of}
use Rattle.store_image.specs.Reading.{AreNumbered}
use Rattle.store_image.proofs.reading.read_segments.Given as goal

-- the segments of the entries so far are read
abbrev pub invariant-loop-entry : goal.invariant-loop-entry
invariant-loop-entry g l =
    let old = (g.D.Disk.view l.fn.disk).moments in
    let lists = map g.B.SegmentBuilder.sealed l.segments.items in
    let done = take l.entry-index l.entries in
    record {
      segments : AreSegments done lists;
      sums : AreSummed done lists;
      numbered : AllByRecursion (AreNumbered l.fn.imports) lists;
      told : AllByRecursion (λ s. g.B.SegmentBuilder.built_with s ≡ l.fn.told) l.segments.items;
      held : (g.D.Disk.view l.fn.disk).is_honest → HoldsAll (pieces_of done lists) old.state.now;
      moments : (g.D.Disk.view l.fn.disk).is_honest → (g.D.Disk.view l.disk).moments ≡ old;
      honesty : (g.D.Disk.view l.fn.disk).is_honest ↔ (g.D.Disk.view l.disk).is_honest;
      failures : (g.D.Disk.view l.disk).failures ≡ (g.D.Disk.view l.fn.disk).failures;
      bytes_read : (g.D.Disk.view l.disk).bytes_read ≤ (g.D.Disk.view l.fn.disk).bytes_read + bytes_listed done;
      goes_on : raised_by (g.D.Disk.view l.fn.disk).bytes_read 0 ≤ (g.D.Disk.view l.disk).bytes_read;
      other_calls : (g.D.Disk.view l.disk).other_calls ≤ (g.D.Disk.view l.fn.disk).other_calls + l.entry-index;
    }
