use Rattle.store_life.proofs.Living.{each_crash_came}
use Rattle.store_life.proofs.laws.each_crash_is_of_a_life.Goals as goal

pub returns : goal.returns
returns g c = each_crash_came _ g.D.Disk.view
