use Rattle.store_image.proofs.Damaged.{represented_is_undamaged}
use Rattle.store_image.proofs.laws.represented_is_undamaged.Goals as goal

pub returns : goal.returns
returns c = represented_is_undamaged
