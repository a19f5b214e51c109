use Rattle.std.proofs.Common.{◌≡◌, ◌∙◌, ap, arith}
use Rattle.disk_model.specs.Change.{place_of}
use Rattle.disk_model.proofs.Places.{place_of-none, rest_of}
use Rattle.disk_model.proofs.memory.record.Record.place_of.Goals as goal

pub returns-then-left-eq0-clause-place : goal.returns-then-left-eq0-clause-place
returns-then-left-eq0-clause-place c =
    let rest = rest_of c.args.self.now.bytes.items c.args.self.now.entries.items c.loop-entry.place in
    let none : place_of rest c.loop-entry.left ≡ 0 = ap (λ n. place_of rest n) c.if-left-eq0.true ∙ place_of-none rest in
    omega (arith, c.loop-entry.invariant.found, none)
