use Rattle.rf2_rows.proofs.Decided.{each_file}
use Rattle.rf2_rows.proofs.laws.file_or_fault.Goals as goal

pub returns : goal.returns
returns c = each_file
