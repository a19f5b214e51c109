use Rattle.checksum.proofs.ChecksumLaws.{is_number_of_32_bits}
use Rattle.checksum.proofs.laws.is_number_of_32_bits.Goals as goal

pub returns : goal.returns
returns c = is_number_of_32_bits
