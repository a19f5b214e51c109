use Rattle.question_model.specs.Questions.{row_question_of}
use Rattle.question_model.specs.Wanted.{rows_for}
use Rattle.index_answers.specs.Keys.{is_put_in_order}
use Rattle.command_line.proofs.Comparing.{answered, refused}
use Rattle.command_line.proofs.store_at.StoreAt.select.Goals as goal

pub returns-in-Ok-clause-asked : goal.returns-in-Ok-clause-asked
returns-in-Ok-clause-asked g c =
    let question = row_question_of c.args.question.now in
    answered g.D.Disk.view (is_put_in_order question) (λ rows. rows.items) (rows_for question) c.in-Ok.rows c.args.self.now.store.now c.select.new.self c.requires.0
    (rw (c.in-Ok.is, c.imports-pin.ensures) at (c.select.ensures.answer (c.requires.1 c.args.self.now.store.now.words)))

pub returns-in-Err-clause-asked : goal.returns-in-Err-clause-asked
returns-in-Err-clause-asked g c =
    let question = row_question_of c.args.question.now in
    rw c.read_fault_of.ensures (refused g.D.Disk.view (is_put_in_order question) (λ rows. rows.items) (rows_for question) c.in-Err.refusal c.args.self.now.store.now c.select.new.self
    (rw (c.in-Err.is, c.imports-pin.ensures) at (c.select.ensures.answer (c.requires.1 c.args.self.now.store.now.words))))
