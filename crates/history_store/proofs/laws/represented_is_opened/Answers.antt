use Rattle.history_store.proofs.Reopened.{represented_is_opened}
use Rattle.history_store.proofs.laws.represented_is_opened.Goals as goal

pub returns : goal.returns
returns c = represented_is_opened
