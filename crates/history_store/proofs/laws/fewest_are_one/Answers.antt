use Rattle.history_store.proofs.FewestRows.{fewest_are_one}
use Rattle.history_store.proofs.laws.fewest_are_one.Goals as goal

pub returns : goal.returns
returns c = fewest_are_one
