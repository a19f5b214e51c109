use Rattle.line_server.proofs.Damage.{damage_holds_back}
use Rattle.line_server.proofs.laws.damage_holds_back.Goals as goal

pub returns : goal.returns
returns g c = damage_holds_back _ g.D.Disk.view
