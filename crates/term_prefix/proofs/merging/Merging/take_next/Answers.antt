use Rattle.std.proofs.Common.{sym, arith}
use Rattle.term_prefix.proofs.InTurns.{stepped_first, stepped_second, none_left}
use Rattle.term_prefix.proofs.merging.Merging.take_next.Goals as goal

pub returns-in-First-clause-merged : goal.returns-in-First-clause-merged
returns-in-First-clause-merged c = (stepped_first c.args.numbers.now c.args.a.now c.args.b.now c.next.ensures.rising c.args.self.now c.take_first.result c.take_first.new.self (sym c.in-First.ensures.found) c.take_first.ensures.ok c.take_first.ensures.err).merged

pub returns-in-First-clause-ok : goal.returns-in-First-clause-ok
returns-in-First-clause-ok c = (stepped_first c.args.numbers.now c.args.a.now c.args.b.now c.next.ensures.rising c.args.self.now c.take_first.result c.take_first.new.self (sym c.in-First.ensures.found) c.take_first.ensures.ok c.take_first.ensures.err).ok

pub returns-in-Second-clause-merged : goal.returns-in-Second-clause-merged
returns-in-Second-clause-merged c = (stepped_second c.args.numbers.now c.args.a.now c.args.b.now c.next.ensures.rising c.args.self.now c.take_second.result c.take_second.new.self (sym c.in-Second.ensures.found) c.take_second.ensures.ok c.take_second.ensures.err).merged

pub returns-in-Second-clause-ok : goal.returns-in-Second-clause-ok
returns-in-Second-clause-ok c = (stepped_second c.args.numbers.now c.args.a.now c.args.b.now c.next.ensures.rising c.args.self.now c.take_second.result c.take_second.new.self (sym c.in-Second.ensures.found) c.take_second.ensures.ok c.take_second.ensures.err).ok

pub returns-in-Neither-clause-ok : goal.returns-in-Neither-clause-ok
returns-in-Neither-clause-ok c = let none = none_left c.args.numbers.now c.args.a.now c.args.b.now c.next.ensures.rising c.args.self.now (sym c.in-Neither.ensures.found) in omega (arith, none)
