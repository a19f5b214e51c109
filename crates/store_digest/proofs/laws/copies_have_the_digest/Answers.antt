use Rattle.std.proofs.Common.{ap}
use Rattle.store_copy.proofs.CopyLaws.{pins_stay}
use Rattle.store_digest.specs.Digest.{digest_of}
use Rattle.store_digest.proofs.laws.copies_have_the_digest.Goals as goal

pub returns : goal.returns
returns c = λ h n pin within. ap digest_of (pins_stay h n pin within)
