use Rattle.store_life.proofs.OpenedAgain.{each_life_begins}
use Rattle.store_life.proofs.laws.each_life_begins.Goals as goal

pub returns : goal.returns
returns g c = each_life_begins _ g.D.Disk.view
