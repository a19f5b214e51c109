use Rattle.std.proofs.Common.{sym, ◌∙◌, arith}
use Rattle.as_of_index.proofs.Walking.{there_at}
use Rattle.as_of_index.proofs.Near.{all_before}
use Rattle.as_of_index.proofs.search.is_passed.Goals as goal

pub returns-in-Some-clause-within : goal.returns-in-Some-clause-within
returns-in-Some-clause-within c = λ e. let lt = there_at c.args.list.now c.args.number c.in-Some.p.now c.in-Some.ensures in omega arith

pub returns-in-Some-clause-before : goal.returns-in-Some-clause-before
returns-in-Some-clause-before c = λ up e.
    all_before c.args.start.now c.args.list.now c.args.number c.in-Some.p.now up c.in-Some.ensures (sym c.is_before.ensures ∙ e)
