use Rattle.segment.proofs.SegmentLaws.{equally_long}
use Rattle.segment.proofs.laws.equally_long.Goals as goal

pub returns : goal.returns
returns c = equally_long
