use Rattle.history_model.proofs.Receipts as receipts
use Rattle.history_model.proofs.laws.new_rows_are_unknown.Goals as goal

pub returns : goal.returns
returns c = receipts.new_rows_are_unknown
