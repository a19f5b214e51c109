use Rattle.std.proofs.Common.{◌∙◌, arith}
use Rattle.term_prefix.specs.Laid.{term_at}
use Rattle.term_prefix.proofs.Laid.{as_headed}
use Rattle.term_prefix.proofs.InTurns.{lesser_from}
use Rattle.term_prefix.proofs.merging.lesser_of.Goals as goal

pub returns-in-Less : goal.returns-in-Less
returns-in-Less c = λ t_is u_is. lesser_from _ (term_at c.args.a_text.now c.args.a.now) (term_at c.args.b_text.now c.args.b.now) (c.in-Less.ensures ∙ as_headed c.args.b_text.now c.args.a_text.now c.args.b.now c.args.a.now (λ i. omega (arith, c.type_inv.b_text i)) (λ i. omega (arith, c.type_inv.a_text i)) u_is t_is)

pub returns-in-Greater : goal.returns-in-Greater
returns-in-Greater c = λ t_is u_is. lesser_from _ (term_at c.args.a_text.now c.args.a.now) (term_at c.args.b_text.now c.args.b.now) (c.in-Greater.ensures ∙ as_headed c.args.b_text.now c.args.a_text.now c.args.b.now c.args.a.now (λ i. omega (arith, c.type_inv.b_text i)) (λ i. omega (arith, c.type_inv.a_text i)) u_is t_is)
