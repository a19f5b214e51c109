use Rattle.history_model.proofs.Brought as brought
use Rattle.history_model.proofs.laws.receipts_count_the_rows.Goals as goal

pub returns : goal.returns
returns c = brought.receipts_count_the_rows
