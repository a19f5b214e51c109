use Rattle.std.proofs.Common.{◌≡◌}
use Rattle.command_line.proofs.package_rows.PackageRowsPackage.next.Given as goal

abbrev pub invariant-loop : goal.invariant-loop
invariant-loop g l = l.self.given ≡ l.fn.self.given
