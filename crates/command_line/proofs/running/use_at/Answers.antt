use Rattle.std.proofs.Common.{refl, subst, inl, inr}
use Rattle.command_line.specs.Runs.{FindsFolder}
use Rattle.command_line.proofs.running.use_at.Goals as goal

pub returns-then-has_folder : goal.returns-then-has_folder
returns-then-has_folder g c = inl (subst (λ b. FindsFolder (g.H.Host.view c.args.host.now) c.args.work.now b) c.if-has_folder.true c.has_folder.ensures, c.open_and_work.ensures)

pub returns-else-has_folder : goal.returns-else-has_folder
returns-else-has_folder g c = inr (subst (λ b. FindsFolder (g.H.Host.view c.args.host.now) c.args.work.now b) c.if-has_folder.false c.has_folder.ensures, c.tell_refusal.ensures, refl, refl)
