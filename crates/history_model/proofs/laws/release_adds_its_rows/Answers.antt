use Rattle.history_model.proofs.Receipts as receipts
use Rattle.history_model.proofs.laws.release_adds_its_rows.Goals as goal

pub returns : goal.returns
returns c = receipts.release_adds_its_rows
