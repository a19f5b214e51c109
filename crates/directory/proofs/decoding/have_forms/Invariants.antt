use Rattle.std.proofs.Common.{take}
use Rattle.std.specs.List.{AllByRecursion}
use Rattle.directory.specs.Listings.{HasForm}
use Rattle.directory.proofs.decoding.have_forms.Given as goal

abbrev pub invariant-loop-entry : goal.invariant-loop-entry
invariant-loop-entry l = AllByRecursion (HasForm l.layout) (take l.entry-index l.entries)
