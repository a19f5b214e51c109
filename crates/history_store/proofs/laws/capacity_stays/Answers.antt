use Rattle.history_store.proofs.KeptBlocks.{stepped_capacity}
use Rattle.history_store.proofs.laws.capacity_stays.Goals as goal

pub returns : goal.returns
returns c = stepped_capacity
