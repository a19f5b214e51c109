use Rattle.history_model.proofs.Ascents as ascents
use Rattle.history_model.proofs.laws.children_are_all.Goals as goal

pub returns : goal.returns
returns c = ascents.children_are_all
