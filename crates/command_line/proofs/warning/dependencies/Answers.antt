use Rattle.std.proofs.Common.{refl}
use Rattle.command_line.proofs.OnlyRead.{queried}
use Rattle.command_line.proofs.warning.dependencies.Goals as goal

pub returns : goal.returns
returns g c = queried g.D.Disk.view _ _ _ (c.select.ensures.answer refl).query
