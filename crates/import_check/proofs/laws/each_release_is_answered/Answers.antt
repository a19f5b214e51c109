use Rattle.import_check.proofs.Deciding.{each_release_is_answered}
use Rattle.import_check.proofs.laws.each_release_is_answered.Goals as goal

pub returns : goal.returns
returns c = each_release_is_answered
