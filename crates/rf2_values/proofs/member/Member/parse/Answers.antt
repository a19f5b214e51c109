use Rattle.std.proofs.Common.{sym}
use Rattle.rf2_values.proofs.member.Member.parse.Goals as goal

pub returns-in-Ok-clause-found : goal.returns-in-Ok-clause-found
returns-in-Ok-clause-found c = (
  c.as_u128.type_inv,
  record {
    long = c.if-text-ne36.false;
    plain = c.is_plain.ensures.0 c.if-not-is_plain.false;
    value = (c.in-Ok.id, sym c.in-Ok.ensures.bytes, c.as_u128.ensures);
  },
)
