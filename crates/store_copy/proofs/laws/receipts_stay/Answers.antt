use Rattle.store_copy.proofs.CopyLaws.{receipts_stay}
use Rattle.store_copy.proofs.laws.receipts_stay.Goals as goal

pub returns : goal.returns
returns c = receipts_stay
