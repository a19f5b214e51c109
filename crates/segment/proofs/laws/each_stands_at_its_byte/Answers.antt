use Rattle.segment.proofs.Posting.{each_stands_at_its_byte}
use Rattle.segment.proofs.laws.each_stands_at_its_byte.Goals as goal

pub returns : goal.returns
returns c = each_stands_at_its_byte
