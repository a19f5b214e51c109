use Rattle.std.proofs.Common.{◌≡◌, take}
use Rattle.plain_history.proofs.releases.copy_of_rows.Given as goal

abbrev pub invariant-loop-s : goal.invariant-loop-s
invariant-loop-s l = l.copy.items ≡ take l.s-index l.rows
