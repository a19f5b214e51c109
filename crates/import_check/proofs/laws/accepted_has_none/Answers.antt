use Rattle.import_check.proofs.Accepting.{accepted_has_none}
use Rattle.import_check.proofs.laws.accepted_has_none.Goals as goal

pub returns : goal.returns
returns c = accepted_has_none
