use Rattle.std.proofs.Common.{length, ap, sym, ◌∙◌}
use Rattle.rf2_values.proofs.FurtherColumns.{further_length}
use Rattle.rf2_values.proofs.length.further_len.Goals as goal

pub returns-clause-value : goal.returns-clause-value
returns-clause-value c = ap length c.as_bytes.ensures.bytes ∙ sym (further_length c.args.further.now)
