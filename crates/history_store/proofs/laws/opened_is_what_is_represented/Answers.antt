use Rattle.history_store.proofs.Reopened.{opened_is_what_is_represented}
use Rattle.history_store.proofs.laws.opened_is_what_is_represented.Goals as goal

pub returns : goal.returns
returns g c = opened_is_what_is_represented
