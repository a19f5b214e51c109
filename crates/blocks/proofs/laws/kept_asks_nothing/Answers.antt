use Rattle.blocks.proofs.Looked as looked
use Rattle.blocks.proofs.laws.kept_asks_nothing.Goals as goal

pub returns : goal.returns
returns c = looked.kept_asks_nothing
