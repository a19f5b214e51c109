use Rattle.store_copy.proofs.CopyLaws.{first_imports_are_releases}
use Rattle.store_copy.proofs.laws.first_imports_are_releases.Goals as goal

pub returns : goal.returns
returns c = first_imports_are_releases
