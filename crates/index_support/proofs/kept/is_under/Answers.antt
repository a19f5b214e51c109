use Rattle.std.proofs.Common.{sym, ap, ◌∙◌}
use Rattle.std.specs.Ordering.{is_lt}
use Rattle.rf2_values.specs.declared.key.Key.{Key}
use Rattle.rf2_values.specs.Key.{key_cmp}
use Rattle.index_support.proofs.kept.is_under.Goals as goal

pub returns-in-Less : goal.returns-in-Less
returns-in-Less c = sym (ap is_lt (ap (λ (k : Key). key_cmp k c.args.key.now) (sym c.key.ensures.key) ∙ sym c.compare.ensures ∙ c.in-Less.is))

pub returns-in-Equal : goal.returns-in-Equal
returns-in-Equal c = sym (ap is_lt (ap (λ (k : Key). key_cmp k c.args.key.now) (sym c.key.ensures.key) ∙ sym c.compare.ensures ∙ c.in-Equal.is))

pub returns-in-Greater : goal.returns-in-Greater
returns-in-Greater c = sym (ap is_lt (ap (λ (k : Key). key_cmp k c.args.key.now) (sym c.key.ensures.key) ∙ sym c.compare.ensures ∙ c.in-Greater.is))
