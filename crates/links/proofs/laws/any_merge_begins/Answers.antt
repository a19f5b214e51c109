use Rattle.links.proofs.MergedEdges.{any_merge_begins}
use Rattle.links.proofs.laws.any_merge_begins.Goals as goal

pub returns : goal.returns
returns c = any_merge_begins
