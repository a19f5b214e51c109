use Rattle.rf2_rows.proofs.Unique.{one_fault_of_line}
use Rattle.rf2_rows.proofs.laws.one_fault_of_line.Goals as goal

pub returns : goal.returns
returns c = one_fault_of_line
