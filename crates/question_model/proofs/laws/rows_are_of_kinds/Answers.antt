use Rattle.question_model.proofs.AnswerKinds as kinds
use Rattle.question_model.proofs.laws.rows_are_of_kinds.Goals as goal

pub returns : goal.returns
returns c = kinds.rows_are_of_kinds
