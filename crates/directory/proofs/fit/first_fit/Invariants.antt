use Rattle.directory.specs.Places.{taken}
use Rattle.directory.proofs.Jumps.{IsTried, ahead}
use Rattle.directory.proofs.fit.first_fit.Given as goal

abbrev pub invariant-jumps : goal.invariant-jumps
invariant-jumps l = IsTried l.count (taken l.live l.reserved) l.first

abbrev pub decreases-jumps : goal.decreases-jumps
decreases-jumps l = ahead l.first (taken l.live l.reserved)
