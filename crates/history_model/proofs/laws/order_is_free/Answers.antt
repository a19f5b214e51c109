use Rattle.history_model.proofs.Releases as releases
use Rattle.history_model.proofs.laws.order_is_free.Goals as goal

pub returns : goal.returns
returns c = releases.order_is_free
