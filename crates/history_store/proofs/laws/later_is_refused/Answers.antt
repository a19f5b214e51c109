use Rattle.history_store.proofs.Later.{later_is_refused}
use Rattle.history_store.proofs.laws.later_is_refused.Goals as goal

pub returns : goal.returns
returns g c = later_is_refused
