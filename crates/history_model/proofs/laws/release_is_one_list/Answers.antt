use Rattle.history_model.proofs.Listings as listings
use Rattle.history_model.proofs.laws.release_is_one_list.Goals as goal

pub returns : goal.returns
returns c = listings.release_is_one_list
