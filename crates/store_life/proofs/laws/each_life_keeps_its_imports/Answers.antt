use Rattle.store_life.proofs.Living.{each_life_keeps}
use Rattle.store_life.proofs.laws.each_life_keeps_its_imports.Goals as goal

pub returns : goal.returns
returns g c = each_life_keeps _ g.D.Disk.view
