use Rattle.store_image.proofs.ChangedBytes.{changed_other_is_damaged}
use Rattle.store_image.proofs.laws.changed_other_is_damaged.Goals as goal

pub returns : goal.returns
returns c = changed_other_is_damaged
