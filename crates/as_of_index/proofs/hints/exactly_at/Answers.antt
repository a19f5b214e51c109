use Rattle.std.proofs.Common.{sym, ◌∙◌, arith}
use Rattle.std.proofs.lemmas.Bool.Decides.{nat_tests}
use Rattle.as_of_index.proofs.Keyed.{has_got}
use Rattle.as_of_index.proofs.hints.exactly_at.Goals as goal

pub returns-in-Some : goal.returns-in-Some
returns-in-Some c = (
  has_got c.args.list.now c.args.number c.in-Some.p.now c.in-Some.ensures,
  sym c.is_of.ensures ∙ c.if-is_of.true,
  (let e = c.if-eq.ensures in grind (arith, nat_tests, e)),
  c.if-p-as_of.true,
)
