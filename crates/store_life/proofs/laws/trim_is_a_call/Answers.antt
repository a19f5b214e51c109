use Rattle.store_life.proofs.Made.{trim_made}
use Rattle.store_life.proofs.laws.trim_is_a_call.Goals as goal

pub returns : goal.returns
returns g c = trim_made g.D.Disk.view
