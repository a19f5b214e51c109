use Rattle.command_line.proofs.OnlyRead.{not_read}
use Rattle.command_line.proofs.warning.is_unknown.Goals as goal

pub returns-then-is_international : goal.returns-then-is_international
returns-then-is_international g c = not_read g.D.Disk.view _
