use Rattle.history_model.proofs.Relationships as relationships
use Rattle.history_model.proofs.laws.children_are_sources.Goals as goal

pub returns : goal.returns
returns c = relationships.children_are_sources
