use Rattle.checksum.proofs.ChecksumLaws.{goes_on}
use Rattle.checksum.proofs.laws.goes_on.Goals as goal

pub returns : goal.returns
returns c = goes_on
