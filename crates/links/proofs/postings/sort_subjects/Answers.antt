use Rattle.std.proofs.Common.{rules}
use Rattle.std.proofs.lemmas.List.Sorted.{IsNonDecreasingBy-from_sort_by}
use Rattle.links.specs.declared.postings.Subject.{Subject}
use Rattle.links.specs.Edges.{subject_rank}
use Rattle.links.proofs.postings.sort_subjects.Goals as goal

pub returns-clause-rising : goal.returns-clause-rising
returns-clause-rising c = IsNonDecreasingBy-from_sort_by (λ (x : Subject). subject_rank x.subject x.kind) _ c.sort_unstable_by.ensures.sorted (λ a r q k. search rules)
