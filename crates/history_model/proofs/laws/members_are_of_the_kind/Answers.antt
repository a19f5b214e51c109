use Rattle.history_model.proofs.Membership as membership
use Rattle.history_model.proofs.laws.members_are_of_the_kind.Goals as goal

pub returns : goal.returns
returns c = membership.members_are_of_the_kind
