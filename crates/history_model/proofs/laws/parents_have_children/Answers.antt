use Rattle.history_model.proofs.Hierarchy as hierarchy
use Rattle.history_model.proofs.laws.parents_have_children.Goals as goal

pub returns : goal.returns
returns c = hierarchy.parents_have_children
