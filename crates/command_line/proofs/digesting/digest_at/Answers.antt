use Rattle.std.proofs.Common.{arith}
use Rattle.command_line.proofs.Digested.{digest_at_asks}
use Rattle.command_line.proofs.digesting.digest_at.Goals as goal

pub returns : goal.returns
returns c = digest_at_asks c.args.number (omega (arith, c.ranges.number))
