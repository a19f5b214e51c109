use Rattle.history_model.proofs.Hierarchy as hierarchy
use Rattle.history_model.proofs.laws.children_are_descendants.Goals as goal

pub returns : goal.returns
returns c = hierarchy.children_are_descendants
