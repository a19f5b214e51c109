use Rattle.history_model.proofs.Membership as membership
use Rattle.history_model.proofs.laws.values_are_the_active_members.Goals as goal

pub returns : goal.returns
returns c = membership.values_are_the_active_members
