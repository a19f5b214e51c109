use Rattle.question_model.proofs.Pages as pages
use Rattle.question_model.proofs.laws.pages_are_all.Goals as goal

pub returns : goal.returns
returns c = pages.pages_are_all
