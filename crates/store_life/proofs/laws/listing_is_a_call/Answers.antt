use Rattle.store_life.proofs.Made.{listing_made}
use Rattle.store_life.proofs.laws.listing_is_a_call.Goals as goal

pub returns : goal.returns
returns g c = listing_made g.D.Disk.view
