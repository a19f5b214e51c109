use Rattle.store_life.proofs.OpenedAgain.{each_opening_is_of_a_life}
use Rattle.store_life.proofs.laws.each_opening_is_of_a_life.Goals as goal

pub returns : goal.returns
returns g c = each_opening_is_of_a_life _ g.D.Disk.view
