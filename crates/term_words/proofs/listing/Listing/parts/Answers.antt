use Rattle.std.proofs.Common.{◌∙◌}
use Rattle.term_words.specs.Laid.{postings_in}
use Rattle.term_words.proofs.listing.Listing.parts.Goals as goal

pub returns-clause-same : goal.returns-clause-same
returns-clause-same c =
    (λ i. postings_in (c.as_slice.ensures.value i) (c.as_slice-2.ensures.value i) (c.as_slice-3.ensures.value i)) ∙ c.self.view_is

pub returns-clause-entries : goal.returns-clause-entries
returns-clause-entries c = rw (c.as_slice.ensures.value, c.as_slice-2.ensures.value, c.as_slice-3.ensures.value) c.self.invariant
