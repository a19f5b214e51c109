use Rattle.command_line.specs.OnlyRead.{IsOnlyRead}
use Rattle.command_line.proofs.warning.warn_of_bases.Given as goal

-- so far the disk was only read
abbrev pub invariant-loop-module : goal.invariant-loop-module
invariant-loop-module g l =
    IsOnlyRead g.D.Disk.view l.fn.store.disk l.store.disk
