use Rattle.import_check.proofs.Deciding.{one_first_contradiction}
use Rattle.import_check.proofs.laws.one_first_contradiction.Goals as goal

pub returns : goal.returns
returns c = one_first_contradiction
