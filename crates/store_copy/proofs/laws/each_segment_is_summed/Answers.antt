use Rattle.store_copy.proofs.CopyLaws.{each_segment_is_summed}
use Rattle.store_copy.proofs.laws.each_segment_is_summed.Goals as goal

pub returns : goal.returns
returns c = each_segment_is_summed
