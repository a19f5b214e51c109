use Rattle.std.proofs.Common.{rules}
use Rattle.std.proofs.lemmas.List.Sorted.{IsPartitionPoint-from_clause}
use Rattle.segment.specs.declared.place.RowPlace.{RowPlace}
use Rattle.as_of_index.specs.Private.Search.{is_under}
use Rattle.as_of_index.proofs.Ordered.{splits}
use Rattle.as_of_index.proofs.Keyed.{under_parted}
use Rattle.index_support.proofs.listed.place_of_key.Goals as goal

pub returns : goal.returns
returns c = λ up. splits (is_under (λ (p : RowPlace). p.key) c.args.key) c.args.list.now c.partition_point.result c.partition_point.ensures.bound
    (IsPartitionPoint-from_clause (is_under (λ (p : RowPlace). p.key) c.args.key) c.args.list.now c.partition_point.result c.partition_point.ensures.partitioned (under_parted (λ (p : RowPlace). p.key) c.args.key c.args.list.now up) (λ a r f k. search rules))
