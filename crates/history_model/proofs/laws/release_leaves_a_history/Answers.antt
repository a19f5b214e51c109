use Rattle.history_model.proofs.Releases as releases
use Rattle.history_model.proofs.laws.release_leaves_a_history.Goals as goal

pub returns : goal.returns
returns c = releases.then_is_history
