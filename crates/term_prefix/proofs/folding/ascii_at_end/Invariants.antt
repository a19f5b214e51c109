use Rattle.std.proofs.Common.{◌-◌, ◌≤◌, length, drop, IsAscii}
use Rattle.term_prefix.proofs.folding.ascii_at_end.Given as goal

abbrev pub invariant-loop-start : goal.invariant-loop-start
invariant-loop-start l = (l.from ≤ l.start) × (l.start ≤ length l.term) × IsAscii (drop l.start l.term)

abbrev pub decreases-loop-start : goal.decreases-loop-start
decreases-loop-start l = l.start - l.from
