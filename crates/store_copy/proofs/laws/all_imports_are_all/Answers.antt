use Rattle.store_copy.proofs.CopyLaws.{all_imports_are_all}
use Rattle.store_copy.proofs.laws.all_imports_are_all.Goals as goal

pub returns : goal.returns
returns c = all_imports_are_all
