-- Room for calls that write no bytes.
use Rattle.std.proofs.Common.{ℕ, ◌+◌, arith}
use Rattle.disk_model.specs.Record.{HasRoomFor}
use Rattle.disk_model.specs.declared.memory.record.Record.{Record}

pub no_bytes : (r : Record) (calls bytes : ℕ) → HasRoomFor r calls (bytes + 0) → HasRoomFor r calls bytes
no_bytes r calls bytes room = (room.0, omega (arith, room.1))
