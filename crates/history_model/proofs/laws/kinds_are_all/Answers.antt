use Rattle.history_model.proofs.Exports as exports
use Rattle.history_model.proofs.laws.kinds_are_all.Goals as goal

pub returns : goal.returns
returns c = exports.kinds_are_all
