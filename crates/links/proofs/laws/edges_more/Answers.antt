use Rattle.links.proofs.Posted.{edges_more}
use Rattle.links.proofs.laws.edges_more.Goals as goal

pub returns : goal.returns
returns c = edges_more
