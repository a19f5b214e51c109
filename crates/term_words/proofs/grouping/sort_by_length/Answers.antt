use Rattle.std.proofs.Common.{rules}
use Rattle.std.proofs.lemmas.List.Sorted.{IsNonDecreasingBy-from_sort_by}
use Rattle.term_words.specs.declared.grouping.Group.{Group}
use Rattle.term_words.proofs.grouping.sort_by_length.Goals as goal

pub returns-clause-sorted : goal.returns-clause-sorted
returns-clause-sorted c = IsNonDecreasingBy-from_sort_by (λ (g : Group). g.len) _ c.sort_unstable_by.ensures.sorted (λ a r q k. search rules)
