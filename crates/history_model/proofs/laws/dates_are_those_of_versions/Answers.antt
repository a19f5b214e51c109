use Rattle.history_model.proofs.Audits as audits
use Rattle.history_model.proofs.laws.dates_are_those_of_versions.Goals as goal

pub returns : goal.returns
returns c = audits.dates_are_those_of_versions
