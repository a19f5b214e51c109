use Rattle.std.proofs.Common.{◌∙◌, arith}
use Rattle.rf2_values.proofs.sctid.check.Goals as goal

pub returns-else-number-lt100000000 : goal.returns-else-number-lt100000000
returns-else-number-lt100000000 c =
    let more = c.if-number-lt100000000.false in
    c.check_after-else-number-lt100000000.ensures ∙ c.check_last_eight.ensures.rest (omega (arith, more))
