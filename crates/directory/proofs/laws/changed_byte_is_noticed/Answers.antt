use Rattle.directory.proofs.Noticed.{changed_byte_is_noticed}
use Rattle.directory.proofs.laws.changed_byte_is_noticed.Goals as goal

pub returns : goal.returns
returns c = changed_byte_is_noticed
