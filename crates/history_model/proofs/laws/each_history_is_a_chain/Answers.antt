use Rattle.history_model.proofs.Chains as chains
use Rattle.history_model.proofs.laws.each_history_is_a_chain.Goals as goal

pub returns : goal.returns
returns c = chains.each_history_is_a_chain
