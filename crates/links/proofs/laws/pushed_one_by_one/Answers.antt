use Rattle.links.proofs.Posted.{pushed_one_by_one}
use Rattle.links.proofs.laws.pushed_one_by_one.Goals as goal

pub returns : goal.returns
returns c = pushed_one_by_one
