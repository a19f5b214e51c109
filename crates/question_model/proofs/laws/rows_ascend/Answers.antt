use Rattle.question_model.proofs.Orders as orders
use Rattle.question_model.proofs.laws.rows_ascend.Goals as goal

pub returns : goal.returns
returns c = orders.rows_ascend
