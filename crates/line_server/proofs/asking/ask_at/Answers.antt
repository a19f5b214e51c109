use Rattle.std.proofs.Common.{ℕ, ◌≤◌, ◌<◌, subst}
use Rattle.question_model.specs.Questions.{question_of}
use Rattle.line_server.proofs.Responding.{asked_behind, above_all}
use Rattle.line_server.proofs.asking.ask_at.Goals as goal

pub returns-then-number-imports : goal.returns-then-number-imports
returns-then-number-imports g c =
    above_all g.D.Disk.view c.args.number (question_of c.args.question.now) c.args.store.now c.args.store.now (subst (λ (n : ℕ). n < c.args.number) c.imports.ensures c.if-number-imports.true)

pub returns : goal.returns
returns g c =
    asked_behind g.D.Disk.view c.args.number (question_of c.args.question.now) c.args.store.now c.ask.new.store c.ask.result c.requires.has_all (subst (λ (n : ℕ). c.args.number ≤ n) c.imports.ensures c.if-number-imports.false) c.ask.ensures
