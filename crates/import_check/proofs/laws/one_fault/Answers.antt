use Rattle.import_check.proofs.Deciding.{one_fault}
use Rattle.import_check.proofs.laws.one_fault.Goals as goal

pub returns : goal.returns
returns c = one_fault
