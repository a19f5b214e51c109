use Rattle.std.proofs.Common.{rules}
use Rattle.std.proofs.lemmas.List.Sorted.{IsNonDecreasingBy-from_sort_by}
use Rattle.term_prefix.specs.declared.text.Term.{Term}
use Rattle.term_prefix.proofs.search.by_row.Goals as goal

pub returns-clause-sorted : goal.returns-clause-sorted
returns-clause-sorted c = IsNonDecreasingBy-from_sort_by (λ (t : Term). t.row) _ c.sort_unstable_by.ensures.sorted (λ a r q k. search rules)
