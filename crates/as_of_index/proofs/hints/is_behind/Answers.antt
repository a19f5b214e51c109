use Rattle.std.proofs.Common.{sym, ◌∙◌, arith}
use Rattle.as_of_index.proofs.Hinted.{all_behind}
use Rattle.as_of_index.proofs.hints.is_behind.Goals as goal

pub returns-in-Some-clause-before : goal.returns-in-Some-clause-before
returns-in-Some-clause-before c = λ up e.
    all_behind c.args.start.now c.args.list.now c.args.place c.in-Some.p.now up (let some = c.if-place-eq0.false in omega arith) c.in-Some.ensures (sym c.is_before.ensures ∙ e)
