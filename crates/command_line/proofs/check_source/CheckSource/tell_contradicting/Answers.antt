use Rattle.command_line.proofs.OnlyRead.{not_read}
use Rattle.command_line.proofs.check_source.CheckSource.tell_contradicting.Goals as goal

pub returns-in-Err : goal.returns-in-Err
returns-in-Err g c = not_read g.D.Disk.view _
