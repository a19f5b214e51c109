use Rattle.std.proofs.Common.{take}
use Rattle.as_of_index.specs.declared.dates.DateEntry.{DateEntry}
use Rattle.as_of_index.specs.Private.Dates.{AddsTimes}
use Rattle.as_of_index.proofs.dates.add_shown.Given as goal

-- the times of the entries so far
abbrev pub invariant-loop-entry : goal.invariant-loop-entry
invariant-loop-entry l = AddsTimes (λ (e : DateEntry). e.time) (λ (e : DateEntry). e.import) l.pin (take l.entry-index l.entries) l.initial.times.items l.times.items
