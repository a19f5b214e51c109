use Rattle.history_model.proofs.Brought as brought
use Rattle.history_model.proofs.laws.each_import_has_a_receipt.Goals as goal

pub returns : goal.returns
returns c = brought.each_import_has_a_receipt
