use Rattle.std.proofs.Common.{◌≡◌, ◌^◌, ◌<◌, take}
use Rattle.directory.specs.Places.{extents_of}
use Rattle.history_store.specs.Merging.{end_of_taken}
use Rattle.history_store.proofs.taken_blocks.end_of.Given as goal

-- of those so far
abbrev pub invariant-loop-entry : goal.invariant-loop-entry
invariant-loop-entry l = record {
  end : l.end ≡ end_of_taken (extents_of (take l.entry-index l.entries));
  fits : l.end < 2 ^ 33;
}
