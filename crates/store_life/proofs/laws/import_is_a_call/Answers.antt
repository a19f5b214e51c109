use Rattle.store_life.proofs.Made.{import_made}
use Rattle.store_life.proofs.laws.import_is_a_call.Goals as goal

pub returns : goal.returns
returns g c = import_made g.D.Disk.view
