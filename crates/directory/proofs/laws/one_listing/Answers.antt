use Rattle.directory.proofs.Spelled.{one_listing}
use Rattle.directory.proofs.laws.one_listing.Goals as goal

pub returns : goal.returns
returns c = one_listing
