use Rattle.store_life.proofs.KeptPins.{what_is_held_is_a_history}
use Rattle.store_life.proofs.laws.what_is_held_is_a_history.Goals as goal

pub returns : goal.returns
returns g c = what_is_held_is_a_history _ g.D.Disk.view g.met.D.Disk.now_is_image
