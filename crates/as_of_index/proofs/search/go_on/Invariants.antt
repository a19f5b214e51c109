use Rattle.std.proofs.Common.{◌≡◌, ◌-◌, ◌≤◌, true, length, take}
use Rattle.std.specs.List.{AllByRecursion}
use Rattle.as_of_index.specs.Private.Search.{is_before}
use Rattle.as_of_index.proofs.search.go_on.Given as goal

abbrev pub invariant-loop-p : goal.invariant-loop-p
invariant-loop-p l = record {
  within : l.place ≤ length l.list;
  before : AllByRecursion (λ p. is_before l.start p ≡ true) (take l.from l.list) → AllByRecursion (λ p. is_before l.start p ≡ true) (take l.place l.list);
}

abbrev pub decreases-loop-p : goal.decreases-loop-p
decreases-loop-p l = length l.list - l.place
