use Rattle.history_model.proofs.Membership as membership
use Rattle.history_model.proofs.laws.each_is_of_one_set.Goals as goal

pub returns : goal.returns
returns c = membership.each_is_of_one_set
