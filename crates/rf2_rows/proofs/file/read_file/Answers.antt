use Rattle.rf2_rows.proofs.FileLaws.{only_answer}
use Rattle.rf2_rows.proofs.Unique.{file_refused}
use Rattle.rf2_rows.proofs.file.read_file.Goals as goal

pub returns-clause-only : goal.returns-clause-only
returns-clause-only c = only_answer c.args.kind c.args.bytes.now c.read.result c.read.ensures.found c.read.ensures.fault

pub returns-clause-refused : goal.returns-clause-refused
returns-clause-refused c = file_refused c.args.kind c.args.bytes.now c.read.result c.read.ensures.found c.read.ensures.fault
