use Rattle.std.proofs.Common.{◌≡◌, ◌++◌}
use Rattle.std.specs.List.{AllByRecursion}
use Rattle.std.specs.Vec.Iter.{into_iter_items}
use Rattle.segment_index.specs.Indexed.{rows_of_all}
use Rattle.segment_index.proofs.store_index.StoreIndex.of_segments.Given as goal

-- the segments so far are listed, and the others are to come
abbrev pub invariant-loop-segment : goal.invariant-loop-segment
invariant-loop-segment l = record {
  can : (goal.iterator-loop-segment).can_next l.segment-iterator;
  finite : (goal.iterator-loop-segment).is_finite l.segment-iterator;
  split : rows_of_all l.fn.segments.items ≡ l.index.lists ++ rows_of_all (into_iter_items l.segment-iterator);
  kept : l.index.words ≡ l.fn.words;
  others : AllByRecursion (λ s. s.words ≡ l.fn.words) (into_iter_items l.segment-iterator);
}
