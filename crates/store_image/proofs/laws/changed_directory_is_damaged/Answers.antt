use Rattle.store_image.proofs.ChangedBytes.{changed_directory_is_damaged}
use Rattle.store_image.proofs.laws.changed_directory_is_damaged.Goals as goal

pub returns : goal.returns
returns c = changed_directory_is_damaged
