use Rattle.history_model.proofs.Chains as chains
use Rattle.history_model.proofs.laws.one_history_for_a_chain.Goals as goal

pub returns : goal.returns
returns c = chains.one_history_for_a_chain
