use Rattle.directory.proofs.Adding.{beside_may_replace}
use Rattle.directory.proofs.laws.beside_may_replace.Goals as goal

pub returns : goal.returns
returns c = beside_may_replace
