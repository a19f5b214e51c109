use Rattle.history_model.proofs.Hierarchy as hierarchy
use Rattle.history_model.proofs.laws.ancestors_have_descendants.Goals as goal

pub returns : goal.returns
returns c = hierarchy.ancestors_have_descendants
