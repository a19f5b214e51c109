use Rattle.rf2_rows.proofs.Decided.{each_line}
use Rattle.rf2_rows.proofs.laws.row_or_fault.Goals as goal

pub returns : goal.returns
returns c = each_line
