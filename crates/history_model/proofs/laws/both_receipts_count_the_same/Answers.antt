use Rattle.history_model.proofs.Brought as brought
use Rattle.history_model.proofs.laws.both_receipts_count_the_same.Goals as goal

pub returns : goal.returns
returns c = brought.both_receipts_count_the_same
