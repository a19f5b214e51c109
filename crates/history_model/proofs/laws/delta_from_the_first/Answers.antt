use Rattle.history_model.proofs.Audits as audits
use Rattle.history_model.proofs.laws.delta_from_the_first.Goals as goal

pub returns : goal.returns
returns c = audits.delta_from_the_first
