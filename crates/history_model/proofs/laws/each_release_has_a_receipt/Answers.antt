use Rattle.history_model.proofs.Receipts as receipts
use Rattle.history_model.proofs.laws.each_release_has_a_receipt.Goals as goal

pub returns : goal.returns
returns c = receipts.each_release_has_a_receipt
