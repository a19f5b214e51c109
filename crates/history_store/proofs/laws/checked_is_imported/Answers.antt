use Rattle.history_store.proofs.Foreseen.{checked_is_imported}
use Rattle.history_store.proofs.laws.checked_is_imported.Goals as goal

pub returns : goal.returns
returns g c = checked_is_imported
