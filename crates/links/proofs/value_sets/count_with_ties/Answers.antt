use Rattle.std.proofs.Common.{◌≡◌, ℕ, ◌-◌, ◌<◌, suc, length, get_or, map, sym, ap, subst, ◌∙◌, arith, rules}
use Rattle.std.specs.Prelude.{nat_le}
use Rattle.std.proofs.lemmas.List.{length-map, get_or-map}
use Rattle.std.proofs.lemmas.List.Sorted.{IsPartitionPoint-from_clause, IsPartitionedBy-leb}
use Rattle.as_of_index.specs.declared.chosen.Chosen.{Chosen}
use Rattle.as_of_index.specs.Private.Search.{SplitsAt}
use Rattle.as_of_index.proofs.Ordered.{splits}
use Rattle.links.specs.Private.Memberships.{IsCutAt}
use Rattle.links.proofs.Ties.{cut_all, cut_behind, rising_by, splits_by}
use Rattle.links.proofs.value_sets.count_with_ties.Goals as goal

pub returns-then-kept-limit : goal.returns-then-kept-limit
returns-then-kept-limit c = λ up.
    let ks = c.args.kept.now in
    let ds = map {B = ℕ} (λ (k : Chosen). k.second) ks in
    let long = length-map ks (λ (k : Chosen). k.second) in
    let few = c.if-kept-limit.true in
    subst (λ n. IsCutAt c.args.limit ds n) long (cut_all c.args.limit ds (omega (arith, long, few)))

pub returns : goal.returns
returns c = λ up.
    let ks = c.args.kept.now in
    let target = λ (k : Chosen). k.second in
    let ds = map {B = ℕ} target ks in
    let limit = c.args.limit in
    let k = limit - 1 in
    let item = c.index-kept-limit.result in
    let count = c.partition_point.result in
    let some = c.if-limit-eq0.false in
    let more = c.if-kept-limit.false in
    let within : k < length ks = omega (arith, some, more) in
    let long = length-map ks target in
    let last_is : get_or ds k 0 ≡ item.second = get_or-map target ks k item 0 within ∙ ap target (sym c.index-kept-limit.is) in
    let split : SplitsAt (λ (x : Chosen). nat_le x.second item.second) ks count = splits (λ (x : Chosen). nat_le x.second item.second) ks count c.partition_point.ensures.bound
    (IsPartitionPoint-from_clause (λ (x : Chosen). nat_le x.second item.second) ks count c.partition_point.ensures.partitioned (IsPartitionedBy-leb target ks item.second up) (λ a r f q. search rules)) in
    let numbers : SplitsAt (λ e. nat_le e (get_or ds k 0)) ds count = subst (λ n. SplitsAt (λ e. nat_le e n) ds count) (sym last_is) (splits_by target (λ n. nat_le n item.second) ks count split) in
    let next : suc k ≡ limit = omega (arith, some) in
    subst (λ n. IsCutAt n ds count) next (cut_behind k ds 0 count (rising_by target ks up) (omega (arith, within, long)) numbers)
