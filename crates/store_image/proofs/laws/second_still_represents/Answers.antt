use Rattle.store_image.proofs.First.{second_still_represents}
use Rattle.store_image.proofs.laws.second_still_represents.Goals as goal

pub returns : goal.returns
returns c = second_still_represents
