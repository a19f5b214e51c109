use Rattle.store_digest.proofs.Texts.{one_text_one_list}
use Rattle.store_digest.proofs.laws.one_text_one_list.Goals as goal

pub returns : goal.returns
returns c = one_text_one_list
