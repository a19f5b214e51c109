use Rattle.store_life.proofs.Living.{lives_compose}
use Rattle.store_life.proofs.laws.lives_compose.Goals as goal

pub returns : goal.returns
returns g c = lives_compose _ g.D.Disk.view
