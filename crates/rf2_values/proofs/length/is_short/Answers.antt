use Rattle.std.proofs.Common.{rules, arith}
use Rattle.rf2_values.proofs.Lengths.{line_short}
use Rattle.rf2_values.proofs.length.is_short.Goals as goal

pub returns-then-texts_len-le65000 : goal.returns-then-texts_len-le65000
returns-then-texts_len-le65000 c =
    let a = c.args in
    let short = line_short a.id a.time a.active a.module_id a.body.now c.texts_len.result c.requires.id c.requires.time c.requires.module_id c.texts_len.ensures.many (omega arith) in
    (λ _. short, λ _. search rules)
