use Rattle.as_of_index.proofs.Storing.{lists_more}
use Rattle.as_of_index.proofs.laws.lists_more.Goals as goal

pub returns : goal.returns
returns c = lists_more
