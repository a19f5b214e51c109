use Rattle.std.proofs.Common.{rules}
use Rattle.std.proofs.lemmas.List.Sorted.{IsPartitionPoint-from_clause}
use Rattle.segment.specs.declared.place.RowPlace.{RowPlace}
use Rattle.as_of_index.specs.Private.Search.{is_under}
use Rattle.as_of_index.proofs.Counted.{count_at}
use Rattle.as_of_index.proofs.Ordered.{splits}
use Rattle.as_of_index.proofs.Keyed.{under_parted}
use Rattle.as_of_index.proofs.numbers.count_under.Goals as goal

pub returns : goal.returns
returns c = count_at (is_under (λ (p : RowPlace). p.key) c.args.key.now) c.args.list.now c.partition_point.result c.partition_point.ensures.bound
    (splits (is_under (λ (p : RowPlace). p.key) c.args.key.now) c.args.list.now c.partition_point.result c.partition_point.ensures.bound
    (IsPartitionPoint-from_clause (is_under (λ (p : RowPlace). p.key) c.args.key.now) c.args.list.now c.partition_point.result c.partition_point.ensures.partitioned (under_parted (λ (p : RowPlace). p.key) c.args.key.now c.args.list.now c.requires) (λ a r f k. search rules)))
