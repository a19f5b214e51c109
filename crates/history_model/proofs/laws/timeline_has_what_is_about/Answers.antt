use Rattle.history_model.proofs.Audits as audits
use Rattle.history_model.proofs.laws.timeline_has_what_is_about.Goals as goal

pub returns : goal.returns
returns c = audits.timeline_has_what_is_about
