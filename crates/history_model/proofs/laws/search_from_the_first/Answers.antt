use Rattle.history_model.proofs.Paging as paging
use Rattle.history_model.proofs.laws.search_from_the_first.Goals as goal

pub returns : goal.returns
returns c = paging.search_from_the_first
