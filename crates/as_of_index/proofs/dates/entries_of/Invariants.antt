use Rattle.std.proofs.Common.{take}
use Rattle.as_of_index.specs.Dates.{AreEntries}
use Rattle.as_of_index.proofs.dates.entries_of.Given as goal

abbrev pub invariant-loop-number : goal.invariant-loop-number
invariant-loop-number l = AreEntries (take l.number l.places) l.entries.items
