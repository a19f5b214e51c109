use Rattle.store_life.proofs.Made.{step_made}
use Rattle.store_life.proofs.laws.merge_step_is_a_call.Goals as goal

pub returns : goal.returns
returns g c = step_made g.D.Disk.view
