use Rattle.segment.proofs.Places.{one_record}
use Rattle.segment.proofs.laws.one_record.Goals as goal

pub returns : goal.returns
returns c = one_record
