use Rattle.store_life.proofs.Made.{abandon_made}
use Rattle.store_life.proofs.laws.merge_abandon_is_a_call.Goals as goal

pub returns : goal.returns
returns g c = abandon_made g.D.Disk.view
