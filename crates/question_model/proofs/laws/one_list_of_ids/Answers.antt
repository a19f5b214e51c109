use Rattle.question_model.proofs.Orders as orders
use Rattle.question_model.proofs.laws.one_list_of_ids.Goals as goal

pub returns : goal.returns
returns c = orders.one_list_of_ids
