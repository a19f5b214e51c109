use Rattle.store_life.proofs.Living.{each_life_stands}
use Rattle.store_life.proofs.laws.each_life_is_represented.Goals as goal

pub returns : goal.returns
returns g c = each_life_stands _ g.D.Disk.view
