use Rattle.std.proofs.Common.{◌≡◌, ◌+◌, ◌*◌, ◌≤◌, take}
use Rattle.history_store.specs.Catalog.{blocks_in_use}
use Rattle.history_store.proofs.counting.blocks_in_use.Given as goal

-- those of the entries so far, none of which has more than a u32
abbrev pub invariant-loop-entry : goal.invariant-loop-entry
invariant-loop-entry l = record {
  blocks : l.blocks ≡ blocks_in_use (take l.entry-index l.entries);
  short : l.blocks ≤ 4 + l.entry-index * 4294967295;
}
