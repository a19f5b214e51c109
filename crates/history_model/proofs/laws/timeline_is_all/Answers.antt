use Rattle.history_model.proofs.Audits as audits
use Rattle.history_model.proofs.laws.timeline_is_all.Goals as goal

pub returns : goal.returns
returns c = audits.timeline_is_all
