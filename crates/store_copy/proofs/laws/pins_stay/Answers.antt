use Rattle.store_copy.proofs.CopyLaws.{pins_stay}
use Rattle.store_copy.proofs.laws.pins_stay.Goals as goal

pub returns : goal.returns
returns c = pins_stay
