use Rattle.store_life.proofs.OneImports.{one_import}
use Rattle.store_life.proofs.laws.one_import.Goals as goal

pub returns : goal.returns
returns g c = one_import _
