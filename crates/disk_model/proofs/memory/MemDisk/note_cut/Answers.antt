use Rattle.std.proofs.Common.{◌+◌}
use Rattle.disk_model.proofs.Room.{no_bytes}
use Rattle.std.proofs.Common.{List, ℕ, Vec, Global, ◌++◌, ◌∷◌, [], sym, ◌∙◌, ap}
use Rattle.disk_model.specs.Change.{Change}
use Rattle.disk_model.specs.Contents.{shown}
use Rattle.disk_model.specs.Faults.{cut_as}
use Rattle.disk_model.specs.MemDisk.{first_bytes, record_of, memory_moments}
use Rattle.disk_model.specs.Record.{changes_in}
use Rattle.disk_model.proofs.Noted.{replay_is, shown_cut, shown_uncut}
use Rattle.disk_model.proofs.memory.MemDisk.note_cut.Goals as goal

pub invariant_of-self-then-part_of-eq1 : goal.invariant_of-self-then-part_of-eq1
invariant_of-self-then-part_of-eq1 c =
    let old = c.args.self.now in
    let change = cut_as c.args.fate c.args.len in
    record {
      read_is_replayed = replay_is (first_bytes old) c.cut.new.self.first.items (record_of old) (changes_in c.note_cut.new.self) (shown c.cut.new.self) change
          (ap (λ (v : Vec ℕ Global). v.items) (c.cut.ensures.first ∙ c.make_room.ensures.first))
          (c.note_cut.ensures.changes ∙ ap (λ (l : List Change). l ++ change ∷ []) c.make_room-2.ensures.changes)
          (shown_cut (memory_moments old).state (shown c.cut.new.self) (shown c.make_room.new.self) c.args.fate c.args.len (c.make_room.ensures.shown ∙ old.read_is_replayed) (sym c.part_of.ensures ∙ c.if-part_of-eq1.true) c.cut.ensures.shown);
    }

pub invariant_of-self-else-part_of-eq1 : goal.invariant_of-self-else-part_of-eq1
invariant_of-self-else-part_of-eq1 c =
    let old = c.args.self.now in
    let change = cut_as c.args.fate c.args.len in
    record {
      read_is_replayed = replay_is (first_bytes old) c.make_room.new.self.first.items (record_of old) (changes_in c.note_cut.new.self) (shown c.make_room.new.self) change
          (ap (λ (v : Vec ℕ Global). v.items) c.make_room.ensures.first)
          (c.note_cut.ensures.changes ∙ ap (λ (l : List Change). l ++ change ∷ []) c.make_room-2.ensures.changes)
          (shown_uncut (memory_moments old).state (shown c.make_room.new.self) (shown old.contents) c.args.fate c.args.len old.read_is_replayed (λ whole. c.if-part_of-eq1.false (c.part_of.ensures ∙ whole)) c.make_room.ensures.shown);
    }

pub returns-then-part_of-eq1-clause-room : goal.returns-then-part_of-eq1-clause-room
returns-then-part_of-eq1-clause-room c = λ end calls bytes room. (
  c.cut.ensures.keeps end (c.make_room.ensures.keeps end room.0),
  c.note_cut.ensures.uses calls bytes (c.make_room-2.ensures.keeps (calls + 1) bytes (no_bytes c.args.self.now.calls (calls + 1) bytes room.1)),
)

pub returns-else-part_of-eq1-clause-room : goal.returns-else-part_of-eq1-clause-room
returns-else-part_of-eq1-clause-room c = λ end calls bytes room. (
  c.make_room.ensures.keeps end room.0,
  c.note_cut.ensures.uses calls bytes (c.make_room-2.ensures.keeps (calls + 1) bytes (no_bytes c.args.self.now.calls (calls + 1) bytes room.1)),
)
