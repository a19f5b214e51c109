use Rattle.std.proofs.Common.{◌≡◌, ◌++◌}
use Rattle.std.specs.List.{AllByRecursion}
use Rattle.history_model.specs.History.{stamped}
use Rattle.segment.specs.Records.{segment_in, IsStamped}
use Rattle.history_store.proofs.placing.place_all.Given as goal

-- the rows so far have their records, and are in the index
abbrev pub invariant-loop-row : goal.invariant-loop-row
invariant-loop-row l = record {
  split : stamped l.import l.fn.rows.items ≡ l.index.rows ++ stamped l.import l.row-iterator;
  bytes : l.bytes.items ≡ segment_in l.form l.index.rows;
  each : AllByRecursion IsStamped l.index.rows;
  words : l.index.words ≡ l.fn.words;
}
