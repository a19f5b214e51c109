use Rattle.term_prefix.proofs.Posted.{posted_terms_are_few}
use Rattle.term_prefix.proofs.laws.posted_terms_are_few.Goals as goal

pub returns : goal.returns
returns c = posted_terms_are_few
