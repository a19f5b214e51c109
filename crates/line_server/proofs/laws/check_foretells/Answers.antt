use Rattle.line_server.proofs.Foretold.{check_foretells}
use Rattle.line_server.proofs.laws.check_foretells.Goals as goal

pub returns : goal.returns
returns g c = check_foretells _ g.D.Disk.view
