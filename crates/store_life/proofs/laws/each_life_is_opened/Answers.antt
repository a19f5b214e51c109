use Rattle.store_life.proofs.Living.{each_life_opens}
use Rattle.store_life.proofs.laws.each_life_is_opened.Goals as goal

pub returns : goal.returns
returns g c = each_life_opens _ g.D.Disk.view
