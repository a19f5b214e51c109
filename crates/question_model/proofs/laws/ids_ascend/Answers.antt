use Rattle.question_model.proofs.Orders as orders
use Rattle.question_model.proofs.laws.ids_ascend.Goals as goal

pub returns : goal.returns
returns c = orders.ids_ascend
