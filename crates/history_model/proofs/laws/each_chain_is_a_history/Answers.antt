use Rattle.history_model.proofs.Chains as chains
use Rattle.history_model.proofs.laws.each_chain_is_a_history.Goals as goal

pub returns : goal.returns
returns c = chains.each_chain_is_a_history
