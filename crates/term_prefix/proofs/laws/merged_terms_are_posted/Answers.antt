use Rattle.term_prefix.proofs.InTurns.{merged_terms_are_posted}
use Rattle.term_prefix.proofs.laws.merged_terms_are_posted.Goals as goal

pub returns : goal.returns
returns c = merged_terms_are_posted
