use Rattle.segment.proofs.SegmentLaws.{plain_is_as_before}
use Rattle.segment.proofs.laws.plain_is_as_before.Goals as goal

pub returns : goal.returns
returns c = plain_is_as_before
