use Rattle.history_store.proofs.ForeseenByKey.{checked_is_imported_on_any_disk}
use Rattle.history_store.proofs.laws.checked_is_imported_on_any_disk.Goals as goal

pub returns : goal.returns
returns g c = checked_is_imported_on_any_disk
