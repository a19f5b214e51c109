use Rattle.links.proofs.MergedEdges.{postings_are_few}
use Rattle.links.proofs.laws.postings_are_few.Goals as goal

pub returns : goal.returns
returns c = postings_are_few
