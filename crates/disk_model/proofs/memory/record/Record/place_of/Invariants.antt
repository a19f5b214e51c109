use Rattle.std.proofs.Common.{◌≡◌, ◌+◌}
use Rattle.disk_model.specs.Change.{place_of}
use Rattle.disk_model.specs.Record.{changes_in}
use Rattle.disk_model.proofs.Places.{rest_of}
use Rattle.disk_model.proofs.memory.record.Record.place_of.Given as goal

abbrev pub invariant-loop-entry : goal.invariant-loop-entry
invariant-loop-entry l = record {
  counted : l.place ≡ l.entry-index;
  found : place_of (changes_in l.self) l.number ≡ l.place + place_of (rest_of l.self.bytes.items l.self.entries.items l.place) l.left;
}
