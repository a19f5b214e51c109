use Rattle.std.proofs.Common.{◌≡◌, ◌-◌, ◌*◌, Ok}
use Rattle.command_line.specs.Merging.{rows_left, segments_of}
use Rattle.command_line.specs.Private.{IsMerging, Progresses}
use Rattle.command_line.proofs.merging.take_rows.Given as goal

-- steps were made of as many segments, and each took its rows
abbrev pub invariant-loop : goal.invariant-loop
invariant-loop g l =
    Progresses g.D.Disk.view (Ok tt) l.fn.store l.store
    × (segments_of l.store ≡ segments_of l.fn.store)
    × IsMerging l.store
    × (rows_left l.store ≡ rows_left l.fn.store - l.counter * 100000)
