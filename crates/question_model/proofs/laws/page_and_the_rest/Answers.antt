use Rattle.question_model.proofs.Pages as pages
use Rattle.question_model.proofs.laws.page_and_the_rest.Goals as goal

pub returns : goal.returns
returns c = pages.page_and_the_rest
