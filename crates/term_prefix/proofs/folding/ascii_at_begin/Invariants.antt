use Rattle.std.proofs.Common.{◌-◌, ◌≤◌, length, take, IsAscii}
use Rattle.term_prefix.proofs.folding.ascii_at_begin.Given as goal

abbrev pub invariant-loop-end : goal.invariant-loop-end
invariant-loop-end l = (l.end ≤ length l.term) × IsAscii (take l.end l.term)

abbrev pub decreases-loop-end : goal.decreases-loop-end
decreases-loop-end l = length l.term - l.end
