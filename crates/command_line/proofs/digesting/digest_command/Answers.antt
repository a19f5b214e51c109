use Rattle.command_line.proofs.Digested.{digest_asks}
use Rattle.command_line.proofs.digesting.digest_command.Goals as goal

pub returns-in-Some : goal.returns-in-Some
returns-in-Some c = rw c.in-Some.is c.digest_at.ensures

pub returns-in-None : goal.returns-in-None
returns-in-None c = rw c.in-None.is digest_asks
