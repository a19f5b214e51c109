use Rattle.store_image.proofs.Merged.{merged_is_kept}
use Rattle.store_image.proofs.laws.merged_is_kept.Goals as goal

pub returns : goal.returns
returns c = merged_is_kept
