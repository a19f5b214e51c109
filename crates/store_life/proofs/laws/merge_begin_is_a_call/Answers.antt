use Rattle.store_life.proofs.Made.{begin_made}
use Rattle.store_life.proofs.laws.merge_begin_is_a_call.Goals as goal

pub returns : goal.returns
returns g c = begin_made g.D.Disk.view
