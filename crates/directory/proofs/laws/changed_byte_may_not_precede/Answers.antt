use Rattle.directory.proofs.Noticed.{changed_byte_may_not_precede}
use Rattle.directory.proofs.laws.changed_byte_may_not_precede.Goals as goal

pub returns : goal.returns
returns c = changed_byte_may_not_precede
