use Rattle.command_line.proofs.OnlyRead.{listed}
use Rattle.command_line.proofs.check_source.CheckSource.tell_all.Goals as goal

pub returns : goal.returns
returns g c = listed g.D.Disk.view _ _ _ _ _ c.contradictions.ensures.answer
