use Rattle.std.proofs.Common.{take}
use Rattle.as_of_index.specs.Private.Search.{all_places, IsFirstFrom}
use Rattle.as_of_index.proofs.several.next_on.Given as goal

abbrev pub invariant-loop-segment : goal.invariant-loop-segment
invariant-loop-segment l = IsFirstFrom l.start (λ x. x.1) (all_places 0 (take l.segment l.lists)) l.best
