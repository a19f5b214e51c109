use Rattle.question_model.proofs.Pages as pages
use Rattle.question_model.proofs.laws.pages_end.Goals as goal

pub returns : goal.returns
returns c = pages.pages_end
