use Rattle.segment.proofs.Checksums.{changed_byte_is_noticed}
use Rattle.segment.proofs.laws.changed_byte_is_noticed.Goals as goal

pub returns : goal.returns
returns c = changed_byte_is_noticed
