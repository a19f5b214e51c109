use Rattle.line_commands.specs.Requests.{check_line}
use Rattle.command_line.proofs.OnlyRead.{read_then}
use Rattle.command_line.proofs.importing.check.Goals as goal

pub answer_read-ended-requires : goal.answer_read-ended-requires
answer_read-ended-requires g c = (check_line c.args.name.now, c.check_request.ensures)

pub returns : goal.returns
returns g c = (
  c.answer_read-ended.new.store.disk,
  c.answer_read-ended.ensures (check_line c.args.name.now) c.check_request.ensures,
  read_then g.D.Disk.view _ _ _ c.tell_contradicting.ensures c.tell_warnings.ensures,
)
