use Rattle.std.proofs.Common.{take}
use Rattle.as_of_index.specs.Private.Search.{all_places, IsPickFrom}
use Rattle.as_of_index.proofs.cursors.latest_on.Given as goal

abbrev pub invariant-loop-segment : goal.invariant-loop-segment
invariant-loop-segment l = IsPickFrom l.kind l.id l.from l.as_of (λ x. x.1) (all_places 0 (take l.segment l.lists)) l.best
