use Rattle.std.specs.BinaryHeap.{heap_items}
use Rattle.std.proofs.Common.{◌↔◌, map}
use Rattle.store_image.specs.Private.Keys.{AreOpen, EachKeyOnce, keys_in, keys_left}
use Rattle.store_image.proofs.apart.run_out.Given as goal

-- what is left tells
abbrev pub invariant-loop-rest : goal.invariant-loop-rest
invariant-loop-rest l = record {
  opened : AreOpen (heap_items l.rests);
  tells : EachKeyOnce (map keys_in (heap_items l.rests)) ↔ EachKeyOnce (map keys_in (heap_items l.initial.rests));
}

abbrev pub decreases-loop-rest : goal.decreases-loop-rest
decreases-loop-rest l = keys_left (heap_items l.rests)
