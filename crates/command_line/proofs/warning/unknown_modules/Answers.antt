use Rattle.command_line.proofs.OnlyRead.{not_read, read_then}
use Rattle.command_line.proofs.warning.unknown_modules.Goals as goal

pub returns-then-is_none : goal.returns-then-is_none
returns-then-is_none g c = not_read g.D.Disk.view _

pub loop-module-init : goal.loop-module-init
loop-module-init g c = not_read g.D.Disk.view _

pub returns-in_err-is_unknown : goal.returns-in_err-is_unknown
returns-in_err-is_unknown g c = read_then g.D.Disk.view _ _ _ c.loop-module.invariant c.is_unknown.ensures

pub loop-module-preserved : goal.loop-module-preserved
loop-module-preserved g c = read_then g.D.Disk.view _ _ _ c.loop-module.invariant c.is_unknown.ensures
