use Rattle.store_life.proofs.KeptPins.{each_life_keeps_its_pins}
use Rattle.store_life.proofs.laws.each_life_keeps_its_pins.Goals as goal

pub returns : goal.returns
returns g c = each_life_keeps_its_pins _ g.D.Disk.view g.met.D.Disk.now_is_image
