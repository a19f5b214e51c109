use Rattle.history_model.proofs.Membership as membership
use Rattle.history_model.proofs.laws.called_are_among_values.Goals as goal

pub returns : goal.returns
returns c = membership.called_are_among_values
