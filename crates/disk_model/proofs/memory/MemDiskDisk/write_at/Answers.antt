use Rattle.std.proofs.Common.{◌∙◌}
use Rattle.disk_model.specs.Faults.{fate_of, written_as}
use Rattle.disk_model.specs.MemDisk.{first_bytes, record_of, faults_of}
use Rattle.disk_model.specs.declared.memory.faults.Fate.{Fate}
use Rattle.disk_model.proofs.Noted.{passed, failed, unmade, at_most_one, write_may_fail}
use Rattle.disk_model.proofs.memory.MemDiskDisk.write_at.Goals as goal

pub returns-clause-made : goal.returns-clause-made
returns-clause-made c =
    let old = c.args.self.now in
    let mid = c.note_write-noted.new.self in
    let new = c.answer.new.self in
    passed c.answer.result c.note_write-noted.result (first_bytes old) (first_bytes mid) (first_bytes new) (record_of old) (record_of mid) (record_of new) c.of_change-fate.result (λ (fate : Fate). written_as fate c.args.at c.args.bytes.now)
    c.answer.ensures.passed c.note_write-noted.ensures.ok c.note_write-noted.ensures.first c.answer.ensures.kept

pub returns-clause-failed : goal.returns-clause-failed
returns-clause-failed c =
    let old = c.args.self.now in
    let mid = c.note_write-noted.new.self in
    let new = c.answer.new.self in
    failed c.answer.result c.note_write-noted.result (first_bytes old) (first_bytes mid) (first_bytes new) (record_of old) (record_of mid) (record_of new) c.of_change-fate.result (λ (fate : Fate). written_as fate c.args.at c.args.bytes.now)
    (write_may_fail c.args.at c.args.bytes.now)
    c.answer.ensures.failed c.note_write-noted.ensures.ok c.note_write-noted.ensures.err c.note_write-noted.ensures.first c.answer.ensures.kept

pub returns-clause-room : goal.returns-clause-room
returns-clause-room c = λ end calls bytes room. c.answer.ensures.room end calls bytes (c.note_write-noted.ensures.room end calls bytes room)

pub returns-clause-unmade : goal.returns-clause-unmade
returns-clause-unmade c =
    λ passes. unmade c.answer.result c.note_write-noted.result (record_of c.args.self.now) (record_of c.note_write-noted.new.self) (record_of c.answer.new.self)
    c.of_change-fate.result
    c.answer.ensures.failed c.note_write-noted.ensures.err c.answer.ensures.kept.1 (c.of_change-fate.ensures.fate ∙ passes)

pub returns-clause-one : goal.returns-clause-one
returns-clause-one c =
    let old = c.args.self.now in
    at_most_one c.note_write-noted.result (record_of old) (record_of c.note_write-noted.new.self) (record_of c.answer.new.self) c.of_change-fate.result (fate_of (faults_of old)) (λ (fate : Fate). written_as fate c.args.at c.args.bytes.now)
    c.note_write-noted.ensures.ok c.note_write-noted.ensures.err c.answer.ensures.kept.1 c.of_change-fate.ensures.fate
