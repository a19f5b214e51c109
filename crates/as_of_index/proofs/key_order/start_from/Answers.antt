use Rattle.std.proofs.Common.{sym, ◌∙◌}
use Rattle.as_of_index.proofs.KeyOrder.{from_later, from_kind}
use Rattle.as_of_index.proofs.key_order.start_from.Goals as goal

pub returns-in-None : goal.returns-in-None
returns-in-None c = rw c.in-None.is c.start_after.ensures

pub returns-then-is_before_kind : goal.returns-then-is_before_kind
returns-then-is_before_kind c = rw c.in-Some.is (λ p. from_kind c.in-Some.kind c.args.after p (sym c.is_before_kind.ensures ∙ c.if-is_before_kind.true))

pub returns-else-is_before_kind : goal.returns-else-is_before_kind
returns-else-is_before_kind c = rw c.in-Some.is (λ p. c.start_after-else-is_before_kind.ensures p ∙ from_later c.in-Some.kind c.args.after p.key (sym c.is_before_kind.ensures ∙ c.if-is_before_kind.false))
