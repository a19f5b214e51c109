use Rattle.links.proofs.Posted.{edges_merged}
use Rattle.links.proofs.laws.edges_merged.Goals as goal

pub returns : goal.returns
returns c = edges_merged
