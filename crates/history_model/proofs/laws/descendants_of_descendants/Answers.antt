use Rattle.history_model.proofs.Hierarchy as hierarchy
use Rattle.history_model.proofs.laws.descendants_of_descendants.Goals as goal

pub returns : goal.returns
returns c = hierarchy.descendants_of_descendants
