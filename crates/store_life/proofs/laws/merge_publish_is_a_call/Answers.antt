use Rattle.store_life.proofs.Made.{publish_made}
use Rattle.store_life.proofs.laws.merge_publish_is_a_call.Goals as goal

pub returns : goal.returns
returns g c = publish_made g.D.Disk.view
