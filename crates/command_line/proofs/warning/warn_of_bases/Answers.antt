use Rattle.command_line.proofs.OnlyRead.{read_then}
use Rattle.command_line.proofs.warning.warn_of_bases.Goals as goal

pub loop-module-init : goal.loop-module-init
loop-module-init g c = c.in_ok-reached.ensures

pub returns-in_err-latest : goal.returns-in_err-latest
returns-in_err-latest g c = read_then g.D.Disk.view _ _ _ c.loop-module.invariant c.latest_of.ensures

pub loop-module-preserved : goal.loop-module-preserved
loop-module-preserved g c = read_then g.D.Disk.view _ _ _ c.loop-module.invariant c.latest_of.ensures
