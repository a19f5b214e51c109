use Rattle.segment.proofs.Lengths.{changed_record_is_none}
use Rattle.segment.proofs.laws.changed_record_is_none.Goals as goal

pub returns : goal.returns
returns c = changed_record_is_none
