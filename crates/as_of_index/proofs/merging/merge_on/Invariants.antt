use Rattle.std.proofs.Common.{◌≡◌, ◌+◌, ◌-◌, ◌≤◌, length, vec_capacity}
use Rattle.as_of_index.specs.Merging.{IsMerged, count_left}
use Rattle.as_of_index.proofs.merging.merge_on.Given as goal

abbrev pub invariant-loop-count : goal.invariant-loop-count
invariant-loop-count g l =
    IsMerged g.T.Posting.kind l.numbers l.first l.second l.merged.taken l.merged.out.items
    × (length l.merged.out.items + count_left l.first l.second l.merged.taken ≤ vec_capacity l.merged.out)
    × (l.count ≤ l.n)
    × (count_left l.first l.second l.merged.taken + l.count ≡ count_left l.first l.second l.fn.merged.taken)

abbrev pub decreases-loop-count : goal.decreases-loop-count
decreases-loop-count g l = l.n - l.count
