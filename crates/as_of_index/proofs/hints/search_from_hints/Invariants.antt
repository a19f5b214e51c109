use Rattle.std.proofs.Common.{take}
use Rattle.as_of_index.specs.Private.Search.{all_places, IsPick}
use Rattle.as_of_index.proofs.hints.search_from_hints.Given as goal

abbrev pub invariant-loop-segment : goal.invariant-loop-segment
invariant-loop-segment l = IsPick l.kind l.id l.as_of (λ x. x.1) (all_places 0 (take l.segment l.lists)) l.best
