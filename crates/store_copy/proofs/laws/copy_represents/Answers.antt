use Rattle.store_copy.proofs.CopyLaws.{copy_represents}
use Rattle.store_copy.proofs.laws.copy_represents.Goals as goal

pub returns : goal.returns
returns c = copy_represents
