use Rattle.line_commands.proofs.Readings.{asked_is_read}
use Rattle.line_commands.proofs.laws.asked_is_read.Goals as goal

pub returns : goal.returns
returns c = asked_is_read
