use Rattle.history_model.proofs.Relationships as relationships
use Rattle.history_model.proofs.laws.sources_are_all.Goals as goal

pub returns : goal.returns
returns c = relationships.sources_are_all
