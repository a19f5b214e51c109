use Rattle.history_model.proofs.Brought as brought
use Rattle.history_model.proofs.laws.one_receipt_for_an_import.Goals as goal

pub returns : goal.returns
returns c = brought.one_receipt_for_an_import
