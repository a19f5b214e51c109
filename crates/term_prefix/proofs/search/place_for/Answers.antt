use Rattle.std.proofs.Common.{sym, ap, ◌∙◌, rules}
use Rattle.std.specs.Prelude.{nat_lt}
use Rattle.std.proofs.lemmas.List.Sorted.{IsPartitionPoint-from_clause}
use Rattle.as_of_index.specs.declared.chosen.Chosen.{Chosen}
use Rattle.as_of_index.proofs.Ordered.{splits}
use Rattle.as_of_index.proofs.First.{parted}
use Rattle.term_prefix.proofs.FirstKept.{ids_parted, place_found, place_other, place_end}
use Rattle.term_prefix.proofs.search.place_for.Goals as goal
use Rattle.term_prefix.proofs.search.place_for.Goals.{else-place-kept-via-then-place-kept+else-kept-place, else-place-kept-via-else-place-kept}

pub returns-then-kept-place-clause-found : goal.returns-then-kept-place-clause-found
returns-then-kept-place-clause-found c = λ up k id_is.
    let kept = c.args.kept.now in
    let id = c.args.id in
    let i = c.partition_point-place.result in
    let p = λ (j : Chosen). nat_lt j.at.key.id id in
    let w = splits p kept i c.partition_point-place.ensures.bound
    (IsPartitionPoint-from_clause p kept i c.partition_point-place.ensures.partitioned (parted p kept (ids_parted id kept up)) (λ a r f k. search rules)) in
    place_found kept i id w k id_is c.index-kept-place.result c.if-place-kept.true c.index-kept-place.is (ap (λ (j : Chosen). j.at.key.id) c.index-kept-place.is ∙ c.if-kept-place.true)

pub returns-else-place-kept-clause-found : goal.returns-else-place-kept-clause-found
returns-else-place-kept-clause-found c = λ up k id_is.
    let kept = c.args.kept.now in
    let id = c.args.id in
    let i = c.partition_point-place.result in
    let p = λ (j : Chosen). nat_lt j.at.key.id id in
    let s = splits p kept i c.partition_point-place.ensures.bound
    (IsPartitionPoint-from_clause p kept i c.partition_point-place.ensures.partitioned (parted p kept (ids_parted id kept up)) (λ a r f k. search rules)) in
    elim c.else-place-kept.branch [
      | else-place-kept-via-then-place-kept+else-kept-place w ↦ place_other kept i id s k id_is w.index-kept-place.result w.if-place-kept.true w.index-kept-place.is (λ e. w.if-kept-place.false (sym (ap (λ (j : Chosen). j.at.key.id) w.index-kept-place.is) ∙ e))
      | else-place-kept-via-else-place-kept w ↦ place_end kept i id s k id_is c.partition_point-place.ensures.bound w.if-place-kept.false
    ]
