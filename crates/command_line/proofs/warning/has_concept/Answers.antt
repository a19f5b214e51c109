use Rattle.std.proofs.Common.{refl}
use Rattle.command_line.proofs.OnlyRead.{queried}
use Rattle.command_line.proofs.warning.has_concept.Goals as goal

pub returns-in_err-rows : goal.returns-in_err-rows
returns-in_err-rows g c = queried g.D.Disk.view _ _ _ (c.in_err-rows.ensures.answer refl).query

pub returns : goal.returns
returns g c = queried g.D.Disk.view _ _ _ (c.in_ok-rows.ensures.answer refl).query
