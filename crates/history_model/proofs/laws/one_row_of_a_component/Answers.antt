use Rattle.history_model.proofs.Ascents as ascents
use Rattle.history_model.proofs.laws.one_row_of_a_component.Goals as goal

pub returns : goal.returns
returns c = ascents.one_row_of_a_component
