use Rattle.history_model.proofs.Ascents as ascents
use Rattle.history_model.proofs.laws.replacements_are_all.Goals as goal

pub returns : goal.returns
returns c = ascents.replacements_are_all
