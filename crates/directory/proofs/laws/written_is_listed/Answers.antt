use Rattle.directory.proofs.Written.{written_is_listed}
use Rattle.directory.proofs.laws.written_is_listed.Goals as goal

pub returns : goal.returns
returns c = written_is_listed
