use Rattle.directory.proofs.Noticed.{listed_may_precede}
use Rattle.directory.proofs.laws.listed_may_precede.Goals as goal

pub returns : goal.returns
returns c = listed_may_precede
