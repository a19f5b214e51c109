use Rattle.std.proofs.Common.{◌≡◌, ◌*◌, ◌≤◌, take}
use Rattle.std.specs.Prelude.{sum_by}
use Rattle.directory.specs.declared.entry.Entry.{Entry}
use Rattle.history_store.proofs.counting.row_count.Given as goal

-- those of the entries so far, none of which has more than a u32
abbrev pub invariant-loop-entry : goal.invariant-loop-entry
invariant-loop-entry l = record {
  count : l.count ≡ sum_by (λ (e : Entry). e.rows) (take l.entry-index l.entries);
  short : l.count ≤ l.entry-index * 4294967295;
}
