use Rattle.std.proofs.Common.{◌+◌, length}
use Rattle.std.proofs.Common.{List, ℕ, Vec, Global, ◌++◌, ◌∷◌, [], take, ◌∙◌, ap}
use Rattle.disk_model.specs.Change.{Change, written}
use Rattle.disk_model.specs.Contents.{shown}
use Rattle.disk_model.specs.Faults.{written_as}
use Rattle.disk_model.specs.MemDisk.{first_bytes, record_of, memory_moments}
use Rattle.disk_model.specs.Record.{changes_in}
use Rattle.disk_model.proofs.Noted.{replay_is, shown_written}
use Rattle.disk_model.proofs.memory.MemDisk.note_write.Goals as goal

pub invariant_of-self-2 : goal.invariant_of-self-2
invariant_of-self-2 c =
    let old = c.args.self.now in
    let bytes = c.args.bytes.now in
    let change = written_as c.args.fate c.args.at bytes in
    record {
      read_is_replayed = replay_is (first_bytes old) c.write.new.self.first.items (record_of old) (changes_in c.note_write.new.self) (shown c.write.new.self) change
          (ap (λ (v : Vec ℕ Global). v.items) (c.write.ensures.first ∙ c.make_room.ensures.first))
          (c.note_write.ensures.changes ∙ ap (λ (l : List Change). l ++ change ∷ []) c.make_room-2.ensures.changes)
          (shown_written (memory_moments old).state (shown c.write.new.self) (shown c.make_room.new.self) c.args.fate c.args.at bytes (c.make_room.ensures.shown ∙ old.read_is_replayed)
          (c.write.ensures.shown ∙ ap (λ n. written (shown c.make_room.new.self) c.args.at (take n bytes)) c.part_of.ensures));
    }

pub returns-clause-room : goal.returns-clause-room
returns-clause-room c = λ end calls bytes room. (
  c.write.ensures.keeps end (c.make_room.ensures.keeps end room.0),
  c.note_write.ensures.uses calls bytes (c.make_room-2.ensures.keeps (calls + 1) (bytes + length c.args.bytes.now) room.1),
)
