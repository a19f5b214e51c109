use Rattle.line_server.proofs.OnlyReading.{reading_has_no_change}
use Rattle.line_server.proofs.laws.reading_has_no_change.Goals as goal

pub returns : goal.returns
returns g c = reading_has_no_change _ g.D.Disk.view
