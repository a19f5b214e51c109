use Rattle.std.proofs.Common.{◌≡◌, drop}
use Rattle.std.specs.List.{find}
use Rattle.directory.specs.Places.{taken}
use Rattle.directory.specs.Fit.{meets}
use Rattle.directory.proofs.fit.extent_met.Given as goal

abbrev pub invariant-loop-entry : goal.invariant-loop-entry
invariant-loop-entry l = find (meets l.first l.blocks) (taken l.live l.reserved) ≡ find (meets l.first l.blocks) (taken (drop l.entry-index l.live) l.reserved)
