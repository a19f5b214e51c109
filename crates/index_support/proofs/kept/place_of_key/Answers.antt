use Rattle.std.proofs.Common.{rules}
use Rattle.std.proofs.lemmas.List.Sorted.{IsPartitionPoint-from_clause}
use Rattle.rf2_values.specs.Key.{key_of}
use Rattle.history_model.specs.declared.stamped.StampedRow.{StampedRow}
use Rattle.as_of_index.specs.Private.Search.{is_under}
use Rattle.as_of_index.proofs.Ordered.{splits}
use Rattle.as_of_index.proofs.Keyed.{under_parted}
use Rattle.index_support.proofs.kept.place_of_key.Goals as goal

pub returns-clause-split : goal.returns-clause-split
returns-clause-split c = λ up. splits (is_under (λ (s : StampedRow). key_of s.row) c.args.key.now) c.args.rows.now c.partition_point.result c.partition_point.ensures.bound
    (IsPartitionPoint-from_clause (is_under (λ (s : StampedRow). key_of s.row) c.args.key.now) c.args.rows.now c.partition_point.result c.partition_point.ensures.partitioned (under_parted (λ (s : StampedRow). key_of s.row) c.args.key.now c.args.rows.now up) (λ a r f k. search rules))
