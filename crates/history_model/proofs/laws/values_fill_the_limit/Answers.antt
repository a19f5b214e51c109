use Rattle.history_model.proofs.Membership as membership
use Rattle.history_model.proofs.laws.values_fill_the_limit.Goals as goal

pub returns : goal.returns
returns c = membership.values_fill_the_limit
