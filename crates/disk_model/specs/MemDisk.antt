-- The value of a disk in memory.
use Rattle.std.specs.Prelude.{◌≡◌, ℕ, ◌+◌, List, take}
use Rattle.disk_model.specs.Disk.{DiskState, Moments}
use Rattle.disk_model.specs.Change.{Change, replayed, made, count_made, place_of}
use Rattle.disk_model.specs.Contents.{HasRoom}
use Rattle.disk_model.specs.Record.{changes_in}
use Rattle.disk_model.specs.View.{DiskView}
use Rattle.disk_model.specs.Record.{HasRoomFor as RecordHasRoomFor}
use Rattle.disk_model.specs.declared.memory.MemDisk.{MemDisk}
use Rattle.disk_model.specs.declared.memory.faults.Faults.{Faults}

-- the bytes that it was made with
abbrev pub first_bytes : MemDisk → List ℕ
first_bytes d = d.contents.first.items

-- the calls that changed it, and those that failed where they may have changed it, the oldest first
abbrev pub record_of : MemDisk → List Change
record_of d = changes_in d.calls

-- the moments of a disk in memory, according to its record
abbrev pub memory_moments : MemDisk → Moments
memory_moments d = replayed (made (first_bytes d)) (record_of d)

-- how many changing calls returned `Ok`
abbrev pub changes_of : MemDisk → ℕ
changes_of d = count_made (record_of d)

-- the state right after the call with this number among those that returned `Ok`; the first one for
-- 0
abbrev pub state_after : MemDisk → ℕ → DiskState
state_after d number =
    (replayed (made (first_bytes d)) (take (place_of (record_of d) number) (record_of d))).state

-- the failures that it was asked for
abbrev pub faults_of : MemDisk → Faults
faults_of d = d.faults

abbrev pub SameRecord : MemDisk → MemDisk → Type 0
SameRecord old new = (first_bytes new ≡ first_bytes old) × (record_of new ≡ record_of old)

-- this many more calls, which write this many bytes and none past this offset, need no memory
abbrev pub HasRoomFor : MemDisk → ℕ → ℕ → ℕ → Type 0
HasRoomFor d end calls bytes = HasRoom d.contents end × RecordHasRoomFor d.calls calls bytes

-- calls that needed no memory before need none afterwards
abbrev pub KeepsRoom : MemDisk → MemDisk → Type 0
KeepsRoom old new =
    (end calls bytes : ℕ) → HasRoomFor old end calls bytes → HasRoomFor new end calls bytes

-- after calls that use this much of the capacity, the rest of it is left
abbrev pub UsesRoom : MemDisk → MemDisk → ℕ → ℕ → Type 0
UsesRoom old new used_calls used_bytes = (end calls bytes : ℕ)
    → HasRoomFor old end (calls + used_calls) (bytes + used_bytes) → HasRoomFor new end calls bytes

-- what a disk in memory shows: it is honest
abbrev pub memory_view : MemDisk → DiskView
memory_view d =
    record {
      is_honest = Unit {0};
      moments = memory_moments d;
      reads_as = λ file. (memory_moments d).state.now ≡ file;
      failures = d.failures;
      bytes_read = d.bytes_read;
      other_calls = d.other_calls;
    }
