use Rattle.std.proofs.Common.{◌≡◌, ◌+◌, ◌++◌, length, take}
use Rattle.std.specs.List.{sum_by}
use Rattle.segment_index.specs.Private.{moved_from}
use Rattle.segment_index.proofs.added_places.add_places.Given as goal

-- the places so far are added
abbrev pub invariant-loop-t : goal.invariant-loop-t
invariant-loop-t l = record {
  places : l.places ≡ l.fn.places ++ moved_from l.from (take l.t-index l.taken);
  at : l.at ≡ l.from + sum_by (λ t. t.place.bytes) (take l.t-index l.taken);
  before : l.len ≡ length l.fn.places;
}
