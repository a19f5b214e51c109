use Rattle.std.proofs.Common.{◌+◌}
use Rattle.disk_model.proofs.Room.{no_bytes}
use Rattle.std.proofs.Common.{List, ◌++◌, ◌∙◌, ap}
use Rattle.disk_model.specs.Change.{Change}
use Rattle.disk_model.specs.Contents.{shown}
use Rattle.disk_model.specs.Faults.{synced_as}
use Rattle.disk_model.specs.MemDisk.{first_bytes, record_of}
use Rattle.disk_model.specs.Record.{changes_in}
use Rattle.disk_model.proofs.Noted.{shown_synced}
use Rattle.disk_model.proofs.memory.MemDisk.note_sync.Goals as goal

pub invariant_of-self-2 : goal.invariant_of-self-2
invariant_of-self-2 c =
    let old = c.args.self.now in
    record {
      read_is_replayed = shown_synced (first_bytes old) (record_of old) (changes_in c.note_sync.new.self) (shown old.contents) c.args.fate
          (c.note_sync.ensures.changes ∙ ap (λ (l : List Change). l ++ synced_as c.args.fate) c.make_room.ensures.changes)
          old.read_is_replayed;
    }

pub returns-clause-room : goal.returns-clause-room
returns-clause-room c = λ end calls bytes room. (
  room.0,
  c.note_sync.ensures.uses calls bytes (c.make_room.ensures.keeps (calls + 1) bytes (no_bytes c.args.self.now.calls (calls + 1) bytes room.1)),
)
