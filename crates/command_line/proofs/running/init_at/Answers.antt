use Rattle.std.proofs.Common.{refl, subst, inl, inr}
use Rattle.command_line.proofs.running.init_at.Goals as goal

pub returns-then-settle : goal.returns-then-settle
returns-then-settle g c = inl (subst (λ b. (g.H.Host.view c.args.host.now).settles c.args.path.now b) c.if-settle.true c.settle.ensures, c.init.ensures)

pub returns-else-settle : goal.returns-else-settle
returns-else-settle g c = inr (subst (λ b. (g.H.Host.view c.args.host.now).settles c.args.path.now b) c.if-settle.false c.settle.ensures, c.refuse.ensures, refl)
