use Rattle.segment.proofs.Places.{each_at_its_place}
use Rattle.segment.proofs.laws.each_at_its_place.Goals as goal

pub returns : goal.returns
returns c = each_at_its_place
