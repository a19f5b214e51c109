use Rattle.history_model.proofs.Audits as audits
use Rattle.history_model.proofs.laws.delta_backwards_is_empty.Goals as goal

pub returns : goal.returns
returns c = audits.delta_backwards_is_empty
