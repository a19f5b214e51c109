use Rattle.store_life.proofs.OpenedAgain.{closed_store_is_opened}
use Rattle.store_life.proofs.laws.closed_store_is_opened.Goals as goal

pub returns : goal.returns
returns g c = closed_store_is_opened _ g.D.Disk.view g.met.D.Disk.now_is_image
