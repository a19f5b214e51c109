use Rattle.segment.proofs.SegmentLaws.{one_segment}
use Rattle.store_image.proofs.Standing.{represents_one}
use Rattle.store_image.proofs.laws.represents_one.Goals as goal

pub returns : goal.returns
returns c = represents_one one_segment
