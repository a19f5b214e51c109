use Rattle.line_server.proofs.Damage.{honest_meets_no_damage}
use Rattle.line_server.proofs.laws.honest_meets_no_damage.Goals as goal

pub returns : goal.returns
returns g c = honest_meets_no_damage _ g.D.Disk.view
