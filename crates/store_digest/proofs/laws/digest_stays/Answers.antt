use Rattle.store_digest.proofs.Texts.{digest_stays}
use Rattle.store_digest.proofs.laws.digest_stays.Goals as goal

pub returns : goal.returns
returns c = digest_stays
