use Rattle.import_check.proofs.Deciding.{read_has_no_fault}
use Rattle.import_check.proofs.laws.read_has_no_fault.Goals as goal

pub returns : goal.returns
returns c = read_has_no_fault
