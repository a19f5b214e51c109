use Rattle.store_image.proofs.RowsRead.{none_placed}
use Rattle.store_image.proofs.segment_places.SegmentPlacesSegmentBuilder.with_capacity.Goals as goal

pub invariant_of-result : goal.invariant_of-result
invariant_of-result c = none_placed _ _ c.in_ok-with_capacity.ensures.items c.new.ensures
