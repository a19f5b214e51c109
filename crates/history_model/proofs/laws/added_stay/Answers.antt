use Rattle.history_model.proofs.Exports as exports
use Rattle.history_model.proofs.laws.added_stay.Goals as goal

pub returns : goal.returns
returns c = exports.added_stay
