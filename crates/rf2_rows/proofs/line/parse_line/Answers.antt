use Rattle.rf2_rows.proofs.Unique.{line_only, line_refused}
use Rattle.rf2_rows.proofs.line.parse_line.Goals as goal

pub returns-clause-only : goal.returns-clause-only
returns-clause-only c = line_only c.args.shape c.args.text.now c.read_line.result c.read_line.ensures

pub returns-clause-refused : goal.returns-clause-refused
returns-clause-refused c = line_refused c.args.shape c.args.text.now c.read_line.result c.read_line.ensures
