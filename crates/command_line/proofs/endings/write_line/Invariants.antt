use Rattle.std.proofs.Common.{length, ◌-◌, ◌≤◌, take}
use Rattle.std.specs.Io.KnownBytes.{Appends}
use Rattle.command_line.proofs.endings.write_line.Given as goal

abbrev pub invariant-loop-done : goal.invariant-loop-done
invariant-loop-done g l = (l.done ≤ length l.line) × Appends (g.O.Write.contents l.fn.output) (g.O.Write.contents l.output) (take l.done l.line)

abbrev pub decreases-loop-done : goal.decreases-loop-done
decreases-loop-done g l = length l.line - l.done
