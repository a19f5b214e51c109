use Rattle.std.proofs.Common.{◌≡◌, ◌-◌, length, take, drop, sym, subst, arith, rules, take_all}
use Rattle.std.specs.List.Sorted.{IsPartitionedBy}
use Rattle.std.proofs.lemmas.List.{length-drop}
use Rattle.std.proofs.lemmas.List.Sorted.{IsPartitionPoint-from_clause}
use Rattle.as_of_index.proofs.Ordered.{splits}
use Rattle.as_of_index.proofs.First.{parted}
use Rattle.term_prefix.proofs.Prefixed.{is_under, begins_so, under-falls, begun-falls, rise-drop, begun_from, begun_all}
use Rattle.term_prefix.proofs.sealed.candidates.Goals as goal

pub returns : goal.returns
returns c = record {
  found = λ up t.
      let xs = c.args.terms.now in
      let text = c.args.text.now in
      let prefix = c.args.prefix.now in
      let first = c.partition_point-first.result in
      let count = c.partition_point-count.result in
      let whole : take (length xs - first) (drop first xs) ≡ drop first xs = take_all (length xs - first) (drop first xs) (omega (arith, length-drop first xs)) in
      let low = splits (is_under text prefix) xs first c.partition_point-first.ensures.bound
      (IsPartitionPoint-from_clause (is_under text prefix) xs first c.partition_point-first.ensures.partitioned (parted (is_under text prefix) xs (under-falls text prefix xs up)) (λ a r f k. search rules)) in
      let high = rw whole at (splits (begins_so text prefix) (take (length xs - first) (drop first xs)) count c.partition_point-count.ensures.bound
      (IsPartitionPoint-from_clause (begins_so text prefix) (take (length xs - first) (drop first xs)) count c.partition_point-count.ensures.partitioned (subst (λ ys. IsPartitionedBy (begins_so text prefix) ys) (sym whole) (parted (begins_so text prefix) (drop first xs) (begun-falls text prefix (drop first xs) (rise-drop text prefix first xs up) low.rest))) (λ a r f k. search rules))) in
      rw whole (λ h. begun_from text prefix xs first count low high t h, λ h. begun_all text prefix xs first count low high t h.0 h.1);
}
