use Rattle.std.proofs.Common.{rules}
use Rattle.std.specs.Ordering.{is_lt}
use Rattle.std.proofs.lemmas.List.Sorted.{answers_always, ranks_by}
use Rattle.rf2_values.specs.Row.{RowValue}
use Rattle.history_model.specs.Queries.{replaced_cmp}
use Rattle.history_model.proofs.Audits.{replaced_total}
use Rattle.links.proofs.associations.sort_by_referenced.Goals as goal

pub returns-clause-sorted : goal.returns-clause-sorted
returns-clause-sorted c = c.sort_unstable_by.ensures.sorted (λ a b. is_lt (replaced_cmp a b)) (ranks_by replaced_total (λ (r : RowValue). r)) (answers_always _ _ _ (λ f a r g h. search rules))
