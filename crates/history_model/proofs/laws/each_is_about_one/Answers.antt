use Rattle.history_model.proofs.Ascents as ascents
use Rattle.history_model.proofs.laws.each_is_about_one.Goals as goal

pub returns : goal.returns
returns c = ascents.each_is_about_one
