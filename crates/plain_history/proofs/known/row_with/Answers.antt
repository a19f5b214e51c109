use Rattle.std.proofs.Common.{sym, ◌∙◌}
use Rattle.plain_history.proofs.Looking.{row_there, none_more}
use Rattle.plain_history.proofs.known.row_with.Goals as goal

pub returns-then-has_key : goal.returns-then-has_key
returns-then-has_key c = (
  row_there c.args.rows.now c.loop-s.s-index c.s-item.result c.loop-s-test.true c.s-item.is,
  c.has_key.ensures.0 c.if-has_key.true,
)

pub loop-s-preserved : goal.loop-s-preserved
loop-s-preserved c =
    none_more c.args.rows.now c.loop-s.s-index c.s-item.result c.loop-s-test.true c.s-item.is c.args.key.now c.loop-s.invariant
    (λ same. let both = sym (c.has_key.ensures.1 same) ∙ c.if-has_key.false in absurd (cc))
