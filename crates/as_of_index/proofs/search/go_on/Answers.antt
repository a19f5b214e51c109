use Rattle.std.proofs.Common.{Some, None, sym, ◌∙◌, arith}
use Rattle.as_of_index.proofs.Walking.{stopped, passed_one, there_at}
use Rattle.as_of_index.proofs.search.go_on.Goals as goal

pub loop-p-preserved : goal.loop-p-preserved
loop-p-preserved c =
    let lt = there_at c.args.list.now c.loop-p.place c.in-Some.p.now c.in-Some.ensures in
    record {
      within = omega arith;
      before = λ before. passed_one c.args.start.now c.args.list.now c.loop-p.place c.in-Some.p.now (c.loop-p.invariant.before before) c.in-Some.ensures (sym c.is_before.ensures ∙ c.if-not-is_before.false);
    }

pub returns-then-not-is_before-clause-split : goal.returns-then-not-is_before-clause-split
returns-then-not-is_before-clause-split c = λ up before.
    stopped c.args.start.now c.args.list.now c.loop-p.place (Some c.in-Some.p.now) up (c.loop-p.invariant.before before) c.in-Some.ensures (sym c.is_before.ensures ∙ c.if-not-is_before.true)

pub returns-clause-split : goal.returns-clause-split
returns-clause-split c = λ up before.
    stopped c.args.start.now c.args.list.now c.loop-p.place None up (c.loop-p.invariant.before before) (rw c.in_default.is at c.lent_at.ensures) tt
