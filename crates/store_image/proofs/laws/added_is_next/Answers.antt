use Rattle.store_image.proofs.Added.{added_is_next}
use Rattle.store_image.proofs.laws.added_is_next.Goals as goal

pub returns : goal.returns
returns c = added_is_next
