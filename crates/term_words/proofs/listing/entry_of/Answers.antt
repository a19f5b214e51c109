use Rattle.std.proofs.Common.{arith, rules}
use Rattle.std.proofs.lemmas.List.Sorted.{IsPartitionPoint-from_clause}
use Rattle.as_of_index.proofs.Ordered.{splits}
use Rattle.as_of_index.proofs.First.{parted}
use Rattle.term_words.proofs.Chained.{is_passed, passed-falls, entry-there}
use Rattle.term_words.proofs.listing.entry_of.Goals as goal

pub returns : goal.returns
returns c = λ count chained lt.
    let entries = c.args.entries.now in
    let number = c.args.number in
    let k = c.partition_point.result in
    let split = splits (is_passed number) entries k c.partition_point.ensures.bound (IsPartitionPoint-from_clause (is_passed number) entries k c.partition_point.ensures.partitioned (parted (is_passed number) entries (passed-falls number 0 entries count chained)) (λ a r f k. search rules)) in
    entry-there 0 entries count k number chained split (omega arith) lt
