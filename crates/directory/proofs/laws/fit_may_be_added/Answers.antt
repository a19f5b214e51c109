use Rattle.directory.proofs.Adding.{fit_may_be_added}
use Rattle.directory.proofs.laws.fit_may_be_added.Goals as goal

pub returns : goal.returns
returns c = fit_may_be_added
