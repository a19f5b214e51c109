use Rattle.question_model.proofs.Pages as pages
use Rattle.question_model.proofs.laws.short_page_is_last.Goals as goal

pub returns : goal.returns
returns c = pages.short_page_is_last
