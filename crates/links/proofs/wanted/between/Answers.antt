use Rattle.std.proofs.Common.{◌≡◌, ◌-◌, length, take, drop, sym, subst, arith, rules, take_all}
use Rattle.std.specs.Prelude.{nat_lt, nat_le}
use Rattle.std.specs.List.Sorted.{IsPartitionedBy}
use Rattle.std.proofs.lemmas.List.{length-drop}
use Rattle.std.proofs.lemmas.List.Sorted.{IsPartitionPoint-from_clause, IsPartitionedBy-ltb, IsPartitionedBy-leb, IsNonDecreasingBy-drop}
use Rattle.as_of_index.proofs.Ordered.{splits}
use Rattle.links.specs.declared.posting.Posting.{Posting}
use Rattle.links.specs.Edges.{rank_of}
use Rattle.links.proofs.Between.{those_from, those_all}
use Rattle.links.proofs.wanted.between.Goals as goal

pub returns : goal.returns
returns c = λ up x.
    let xs = c.args.list.now in
    let d = c.args.low in
    let e = c.args.high in
    let of = λ (m : Posting). rank_of m in
    let first = c.partition_point-first.result in
    let count = c.partition_point-count.result in
    let whole : take (length xs - first) (drop first xs) ≡ drop first xs = take_all (length xs - first) (drop first xs) (omega (arith, length-drop first xs)) in
    let low = splits (λ (m : Posting). nat_lt (of m) d) xs first c.partition_point-first.ensures.bound
    (IsPartitionPoint-from_clause (λ (m : Posting). nat_lt (of m) d) xs first c.partition_point-first.ensures.partitioned (IsPartitionedBy-ltb of xs d up) (λ a r f k. search rules)) in
    let high = rw whole at (splits (λ (m : Posting). nat_le (of m) e) (take (length xs - first) (drop first xs)) count c.partition_point-count.ensures.bound
    (IsPartitionPoint-from_clause (λ (m : Posting). nat_le (of m) e) (take (length xs - first) (drop first xs)) count c.partition_point-count.ensures.partitioned (subst (λ ys. IsPartitionedBy (λ (m : Posting). nat_le (of m) e) ys) (sym whole) (IsPartitionedBy-leb of (drop first xs) e (IsNonDecreasingBy-drop of first xs up))) (λ a r f k. search rules))) in
    rw whole (λ h. those_from of xs d e first count low high x h, λ h. those_all of xs d e first count low high x h.0 h.1 h.2)
