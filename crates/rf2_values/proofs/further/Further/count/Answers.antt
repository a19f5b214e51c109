use Rattle.std.proofs.Common.{◌∙◌}
use Rattle.rf2_values.proofs.FurtherColumns.{count_further}
use Rattle.rf2_values.proofs.further.Further.count.Goals as goal

pub returns-then-is_further : goal.returns-then-is_further
returns-then-is_further c =
    let is = c.is_further.ensures.0 c.if-is_further.true in
    (is, c.count_tabs.ensures ∙ count_further c.args.bytes.now is)
