use Rattle.store_image.proofs.First.{first_still_represents}
use Rattle.store_image.proofs.laws.first_still_represents.Goals as goal

pub returns : goal.returns
returns c = first_still_represents
