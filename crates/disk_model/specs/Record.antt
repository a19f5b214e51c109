-- The calls in a record, and its capacity.
use Rattle.std.specs.Prelude.{ℕ, ◌+◌, ◌≤◌, List, map, vec_len, vec_capacity}
use Rattle.disk_model.specs.Change.{Change}
use Rattle.disk_model.specs.Entry.{change_of}
use Rattle.disk_model.specs.declared.memory.record.Record.{Record}

abbrev pub changes_in : Record → List Change
changes_in r = map (change_of r.bytes.items) r.entries.items

-- this many more calls, which write this many bytes, need no memory
abbrev pub HasRoomFor : Record → ℕ → ℕ → Type 0
HasRoomFor r calls bytes = (vec_len r.entries + calls ≤ vec_capacity r.entries)
    × (vec_len r.bytes + bytes ≤ vec_capacity r.bytes)
