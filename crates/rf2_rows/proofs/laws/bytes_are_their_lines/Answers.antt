use Rattle.rf2_rows.proofs.Lines.{in_lines}
use Rattle.rf2_rows.proofs.laws.bytes_are_their_lines.Goals as goal

pub returns : goal.returns
returns c = in_lines
