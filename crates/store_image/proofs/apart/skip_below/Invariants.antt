use Rattle.std.proofs.Common.{length}
use Rattle.store_image.specs.Private.Keys.{IsBehind}
use Rattle.store_image.proofs.apart.skip_below.Given as goal

-- those before are below the key
abbrev pub invariant-loop-first : goal.invariant-loop-first
invariant-loop-first l = IsBehind l.fn.key l.fn.places l.left

abbrev pub decreases-loop-first : goal.decreases-loop-first
decreases-loop-first l = length l.left
