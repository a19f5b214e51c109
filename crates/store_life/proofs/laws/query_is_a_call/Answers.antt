use Rattle.store_life.proofs.Made.{query_made}
use Rattle.store_life.proofs.laws.query_is_a_call.Goals as goal

pub returns : goal.returns
returns g c = query_made g.D.Disk.view _
