-- Which change an entry of a record is: the bytes of all writes lie in one list.
use Rattle.std.specs.Prelude.{ℕ, List, slice_range}
use Rattle.disk_model.specs.Change.{Change, Write, Cut, Sync, FailedWrite, FailedCut}
use Rattle.disk_model.specs.declared.memory.record.Entry.{Entry}
use Rattle.disk_model.specs.declared.memory.record.Entry.TheVariants.{Written, Shortened, Synced}
use Rattle.disk_model.specs.declared.memory.record.Entry.TheVariants.{WriteFailed, CutFailed}

abbrev pub change_of : List ℕ → Entry → Change
change_of bytes (Written at from end) = Write at (slice_range bytes from end)
change_of bytes (Shortened len) = Cut len
change_of bytes Synced = Sync
change_of bytes (WriteFailed at from end part) = FailedWrite at (slice_range bytes from end) part
change_of bytes (CutFailed len is_made) = FailedCut len is_made
