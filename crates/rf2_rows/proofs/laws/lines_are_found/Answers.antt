use Rattle.rf2_rows.proofs.Lines.{lines_are_found}
use Rattle.rf2_rows.proofs.laws.lines_are_found.Goals as goal

pub returns : goal.returns
returns c = lines_are_found
