use Rattle.history_model.proofs.Audits as audits
use Rattle.history_model.proofs.laws.two_deltas_cover_both.Goals as goal

pub returns : goal.returns
returns c = audits.two_deltas_cover_both
