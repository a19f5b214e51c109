use Rattle.history_model.proofs.Audits as audits
use Rattle.history_model.proofs.laws.delta_has_the_later_row.Goals as goal

pub returns : goal.returns
returns c = audits.delta_has_the_later_row
