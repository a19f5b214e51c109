use Rattle.store_life.proofs.Made.{unchanged_made}
use Rattle.store_life.proofs.laws.unchanged_is_a_call.Goals as goal

pub returns : goal.returns
returns g c = unchanged_made g.D.Disk.view
