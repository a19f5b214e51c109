use Rattle.history_model.proofs.Exports as exports
use Rattle.history_model.proofs.laws.receipt_counts_the_added.Goals as goal

pub returns : goal.returns
returns c = exports.receipt_counts_the_added
