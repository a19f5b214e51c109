use Rattle.store_image.proofs.Damaged.{one_damage}
use Rattle.store_image.proofs.laws.one_damage.Goals as goal

pub returns : goal.returns
returns c = one_damage
