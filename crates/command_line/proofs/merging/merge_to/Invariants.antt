use Rattle.std.proofs.Common.{◌≡◌, ◌+◌, ◌<◌}
use Rattle.command_line.specs.Merging.{segments_of}
use Rattle.command_line.specs.Private.{HaveMerged, IsAtRest}
use Rattle.command_line.proofs.merging.merge_to.Given as goal

-- each merge so far made one segment of two
abbrev pub invariant-loop : goal.invariant-loop
invariant-loop g l =
    HaveMerged g.D.Disk.view l.fn.most l.fn.store l.fn.store l.store
    × (segments_of l.store + l.counter ≡ segments_of l.fn.store)
    × IsAtRest l.store
