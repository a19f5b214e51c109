use Rattle.std.specs.BinaryHeap.{heap_items}
use Rattle.std.proofs.Common.{◌↔◌, ◌++◌, map, drop}
use Rattle.segment.specs.Standing.{places_of}
use Rattle.store_image.specs.Private.Keys.{AreOpen, EachKeyOnce, keys_in, keys_of}
use Rattle.store_image.proofs.apart.are_apart.Given as goal

-- what is open, with what is to come, tells
abbrev pub invariant-loop-segment : goal.invariant-loop-segment
invariant-loop-segment g l =
    let lists = map keys_of (map places_of (map g.B.SegmentBuilder.sealed l.segments)) in
    record {
      opened : AreOpen (heap_items l.rests);
      tells : EachKeyOnce (map keys_in (heap_items l.rests) ++ drop l.segment-index lists) ↔ EachKeyOnce lists;
    }
