use Rattle.segment.proofs.SegmentLaws.{pieces_join}
use Rattle.segment.proofs.laws.pieces_join.Goals as goal

pub returns : goal.returns
returns c = pieces_join
