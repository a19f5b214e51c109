use Rattle.history_model.proofs.Receipts as receipts
use Rattle.history_model.proofs.laws.receipt_counts_the_unknown.Goals as goal

pub returns : goal.returns
returns c = receipts.receipt_counts_the_unknown
