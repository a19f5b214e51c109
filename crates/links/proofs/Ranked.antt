-- The order of what is to be read, and of its rows.
use Rattle.std.proofs.Common.{◌≡◌, sym}
use Rattle.std.specs.Ordering.{nat_cmp, ordering_then}
use Rattle.std.specs.Cmp.{IsTotalOrder, nat_cmp_total, ranked as number_ranked, on_total}
use Rattle.std.specs.declared.cmp.Ordering.TheVariants.{Equal}
use Rattle.std.proofs.lemmas.Cmp.{then_total}
use Rattle.list_lemmas.proofs.Tests.{both_equal}
use Rattle.rf2_values.specs.Row.{RowValue}
use Rattle.history_model.specs.Queries.{refset_of, target_of, replacement_cmp}
use Rattle.as_of_index.specs.declared.chosen.Chosen.{Chosen}
use Rattle.as_of_index.specs.Private.Chosen.{ranked_cmp}

pub ranked_total : IsTotalOrder ranked_cmp
ranked_total = then_total (on_total (λ (k : Chosen). k.first) nat_cmp_total) (then_total (on_total (λ (k : Chosen). k.second) nat_cmp_total) (on_total (λ (k : Chosen). k.at.key.id) nat_cmp_total))

-- those of one rank have one id
pub one_id : (j k : Chosen) → ranked_cmp j k ≡ Equal → j.at.key.id ≡ k.at.key.id
one_id j k e =
    let rest = (both_equal (nat_cmp j.first k.first) (ordering_then (nat_cmp j.second k.second) (nat_cmp j.at.key.id k.at.key.id)) e).1 in
    number_ranked j.at.key.id k.at.key.id Equal (sym (both_equal (nat_cmp j.second k.second) (nat_cmp j.at.key.id k.at.key.id) rest).1)

pub one_row_id : (a b : RowValue) → replacement_cmp a b ≡ Equal → a.id ≡ b.id
one_row_id a b e =
    let rest = (both_equal (nat_cmp (refset_of a.body) (refset_of b.body)) (ordering_then (nat_cmp (target_of a.body) (target_of b.body)) (nat_cmp a.id b.id)) e).1 in
    number_ranked a.id b.id Equal (sym (both_equal (nat_cmp (target_of a.body) (target_of b.body)) (nat_cmp a.id b.id) rest).1)
