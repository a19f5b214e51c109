use Rattle.rf2_rows.proofs.RowLaws.{spelled_has_no_fault}
use Rattle.rf2_rows.proofs.laws.row_has_no_fault.Goals as goal

pub returns : goal.returns
returns c = spelled_has_no_fault
