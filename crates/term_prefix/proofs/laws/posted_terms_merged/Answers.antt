use Rattle.term_prefix.proofs.Posted.{posted_terms_merged}
use Rattle.term_prefix.proofs.laws.posted_terms_merged.Goals as goal

pub returns : goal.returns
returns c = posted_terms_merged
