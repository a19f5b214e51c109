use Rattle.segment.proofs.SegmentLaws.{one_segment}
use Rattle.segment.proofs.laws.one_segment.Goals as goal

pub returns : goal.returns
returns c = one_segment
