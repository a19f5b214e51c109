use Rattle.command_line.specs.Tasks.{digest_line}
use Rattle.command_line.proofs.digesting.digest.Goals as goal

pub answer_read-requires : goal.answer_read-requires
answer_read-requires g c = (digest_line c.args.imports, c.digest_command.ensures)

pub returns : goal.returns
returns g c = c.answer_read.ensures (digest_line c.args.imports) c.digest_command.ensures
