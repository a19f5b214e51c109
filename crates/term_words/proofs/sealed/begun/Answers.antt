use Rattle.std.proofs.Common.{◌≡◌, ◌-◌, length, take, drop, sym, subst, arith, rules, take_all}
use Rattle.std.specs.List.Sorted.{IsPartitionedBy}
use Rattle.std.proofs.lemmas.List.{length-drop}
use Rattle.std.proofs.lemmas.List.Sorted.{IsPartitionPoint-from_clause}
use Rattle.as_of_index.proofs.Ordered.{splits}
use Rattle.as_of_index.proofs.First.{parted}
use Rattle.term_words.specs.declared.listing.Entry.{Entry}
use Rattle.term_words.specs.Laid.{key_in}
use Rattle.term_words.specs.Private.Chains.{key_of}
use Rattle.term_words.proofs.Begun.{is_under, begins_so, under-falls, begun-falls, rise-drop, begun_from, begun_all}
use Rattle.term_words.proofs.sealed.begun.Goals as goal

pub returns : goal.returns
returns c = λ up e.
    let xs = c.args.entries.now in
    let text = c.args.text.now in
    let prefix = key_of c.args.prefix in
    let f = λ (x : Entry). key_in text x.key in
    let first = c.partition_point-first.result in
    let count = c.partition_point-count.result in
    let whole : take (length xs - first) (drop first xs) ≡ drop first xs = take_all (length xs - first) (drop first xs) (omega (arith, length-drop first xs)) in
    let low = splits (is_under f prefix) xs first c.partition_point-first.ensures.bound
    (IsPartitionPoint-from_clause (is_under f prefix) xs first c.partition_point-first.ensures.partitioned (parted (is_under f prefix) xs (under-falls f prefix xs up)) (λ a r g k. search rules)) in
    let high = rw whole at (splits (begins_so f prefix) (take (length xs - first) (drop first xs)) count c.partition_point-count.ensures.bound
    (IsPartitionPoint-from_clause (begins_so f prefix) (take (length xs - first) (drop first xs)) count c.partition_point-count.ensures.partitioned (subst (λ ys. IsPartitionedBy (begins_so f prefix) ys) (sym whole) (parted (begins_so f prefix) (drop first xs) (begun-falls f prefix (drop first xs) (rise-drop f prefix first xs up) low.rest))) (λ a r g k. search rules))) in
    rw whole (λ h. begun_from f prefix xs first count low high e h, λ h. begun_all f prefix xs first count low high e h.0 h.1)
