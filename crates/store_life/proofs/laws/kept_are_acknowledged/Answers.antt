use Rattle.store_life.proofs.Living.{kept_are_acknowledged}
use Rattle.store_life.proofs.laws.kept_are_acknowledged.Goals as goal

pub returns : goal.returns
returns c = kept_are_acknowledged
