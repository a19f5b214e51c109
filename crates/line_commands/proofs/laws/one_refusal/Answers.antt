use Rattle.line_commands.proofs.Readings.{one_refusal}
use Rattle.line_commands.proofs.laws.one_refusal.Goals as goal

pub returns : goal.returns
returns c = one_refusal
