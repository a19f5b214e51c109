use Rattle.import_check.proofs.Deciding.{consistent_has_none}
use Rattle.import_check.proofs.laws.consistent_has_none.Goals as goal

pub returns : goal.returns
returns c = consistent_has_none
