use Rattle.directory.proofs.Fitting.{no_fit_is_full}
use Rattle.directory.proofs.laws.no_fit_is_full.Goals as goal

pub returns : goal.returns
returns c = no_fit_is_full
