use Rattle.history_model.proofs.Brought as brought
use Rattle.history_model.proofs.laws.import_receipt_stays.Goals as goal

pub returns : goal.returns
returns c = brought.import_receipt_stays
