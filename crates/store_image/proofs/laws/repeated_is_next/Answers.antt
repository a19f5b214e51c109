use Rattle.store_image.proofs.Added.{repeated_is_next}
use Rattle.store_image.proofs.laws.repeated_is_next.Goals as goal

pub returns : goal.returns
returns c = repeated_is_next
