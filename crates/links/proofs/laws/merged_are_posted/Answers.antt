use Rattle.links.proofs.MergedEdges.{merged_are_posted}
use Rattle.links.proofs.laws.merged_are_posted.Goals as goal

pub returns : goal.returns
returns c = merged_are_posted
