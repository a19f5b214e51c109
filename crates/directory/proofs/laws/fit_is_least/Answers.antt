use Rattle.directory.proofs.Fitting.{fit_is_least}
use Rattle.directory.proofs.laws.fit_is_least.Goals as goal

pub returns : goal.returns
returns c = fit_is_least
