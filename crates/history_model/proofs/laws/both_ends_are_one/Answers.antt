use Rattle.history_model.proofs.Audits as audits
use Rattle.history_model.proofs.laws.both_ends_are_one.Goals as goal

pub returns : goal.returns
returns c = audits.both_ends_are_one
