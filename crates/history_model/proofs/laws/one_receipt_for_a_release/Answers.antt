use Rattle.history_model.proofs.Receipts as receipts
use Rattle.history_model.proofs.laws.one_receipt_for_a_release.Goals as goal

pub returns : goal.returns
returns c = receipts.one_receipt_for_a_release
