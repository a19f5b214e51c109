use Rattle.disk_model.specs.MemDisk.{first_bytes, record_of}
use Rattle.disk_model.proofs.Noted.{synced_ok, unsynced}
use Rattle.disk_model.proofs.memory.MemDiskDisk.sync.Goals as goal

pub returns-clause-made : goal.returns-clause-made
returns-clause-made c =
    let old = c.args.self.now in
    let mid = c.note_sync-noted.new.self in
    let new = c.answer.new.self in
    synced_ok c.answer.result c.note_sync-noted.result (first_bytes old) (first_bytes mid) (first_bytes new) (record_of old) (record_of mid) (record_of new) c.of_change-fate.result
    c.answer.ensures.passed c.note_sync-noted.ensures.ok c.note_sync-noted.ensures.first c.answer.ensures.kept

pub returns-clause-room : goal.returns-clause-room
returns-clause-room c = λ end calls bytes room. c.answer.ensures.room end calls bytes (c.note_sync-noted.ensures.room end calls bytes room)

pub returns-clause-unmade : goal.returns-clause-unmade
returns-clause-unmade c =
    unsynced c.answer.result c.note_sync-noted.result (record_of c.args.self.now) (record_of c.note_sync-noted.new.self) (record_of c.answer.new.self)
    c.of_change-fate.result
    c.answer.ensures.failed c.note_sync-noted.ensures.ok c.note_sync-noted.ensures.err c.answer.ensures.kept.1
