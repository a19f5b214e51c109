use Rattle.rf2_values.proofs.Texts.{neither}
use Rattle.rf2_values.proofs.text.is_unbroken.Goals as goal

pub returns : goal.returns
returns c = neither c.args.bytes.now c.memchr2.result c.is_none.result c.memchr2.ensures c.is_none.ensures
