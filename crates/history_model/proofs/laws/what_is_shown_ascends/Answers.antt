use Rattle.history_model.proofs.Ascents as ascents
use Rattle.history_model.proofs.laws.what_is_shown_ascends.Goals as goal

pub returns : goal.returns
returns c = ascents.what_is_shown_ascends
