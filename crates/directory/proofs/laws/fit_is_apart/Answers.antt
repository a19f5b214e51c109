use Rattle.directory.proofs.Fitting.{fit_is_apart}
use Rattle.directory.proofs.laws.fit_is_apart.Goals as goal

pub returns : goal.returns
returns c = fit_is_apart
