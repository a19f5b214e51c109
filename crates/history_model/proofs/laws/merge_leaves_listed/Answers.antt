use Rattle.history_model.proofs.Listings as listings
use Rattle.history_model.proofs.laws.merge_leaves_listed.Goals as goal

pub returns : goal.returns
returns c = listings.merge_leaves_listed
