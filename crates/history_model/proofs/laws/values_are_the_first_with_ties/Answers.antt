use Rattle.history_model.proofs.Membership as membership
use Rattle.history_model.proofs.laws.values_are_the_first_with_ties.Goals as goal

pub returns : goal.returns
returns c = membership.values_are_the_first_with_ties
