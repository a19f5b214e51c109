use Rattle.history_store.proofs.Reopened.{first_is_opened}
use Rattle.history_store.proofs.laws.first_is_opened.Goals as goal

pub returns : goal.returns
returns g c = first_is_opened
