use Rattle.line_server.proofs.OnlyReading.{reading_writes_nothing}
use Rattle.line_server.proofs.laws.reading_writes_nothing.Goals as goal

pub returns : goal.returns
returns g c = reading_writes_nothing _ g.D.Disk.view
