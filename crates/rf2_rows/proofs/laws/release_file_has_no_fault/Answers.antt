use Rattle.rf2_rows.proofs.FileLaws.{release_file_has_no_fault}
use Rattle.rf2_rows.proofs.laws.release_file_has_no_fault.Goals as goal

pub returns : goal.returns
returns c = release_file_has_no_fault
