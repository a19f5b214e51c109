use Rattle.checksum.proofs.ChecksumLaws.{one_byte_is_noticed}
use Rattle.checksum.proofs.laws.one_byte_is_noticed.Goals as goal

pub returns : goal.returns
returns c = one_byte_is_noticed
