use Rattle.std.proofs.Common.{◌≤◌, length}
use Rattle.disk_model.proofs.file.write_all.Given as goal

abbrev pub invariant-loop : goal.invariant-loop
invariant-loop l = l.done ≤ length l.bytes
