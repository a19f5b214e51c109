use Rattle.store_life.proofs.Made.{check_made}
use Rattle.store_life.proofs.laws.check_is_a_call.Goals as goal

pub returns : goal.returns
returns g c = check_made g.D.Disk.view
