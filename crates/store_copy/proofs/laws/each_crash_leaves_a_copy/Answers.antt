use Rattle.store_copy.proofs.CopyLaws.{each_crash_leaves_a_copy}
use Rattle.store_copy.proofs.laws.each_crash_leaves_a_copy.Goals as goal

pub returns : goal.returns
returns c = each_crash_leaves_a_copy
