use Rattle.std.proofs.Common.{arith}
use Rattle.term_words.specs.Posted.{keyed}
use Rattle.term_words.specs.Private.Chains.{key_of}
use Rattle.term_words.proofs.Stepping.{step_first, step_second, took_none}
use Rattle.term_words.proofs.merging.Merging.take_next.Goals as goal

pub take_first-requires : goal.take_first-requires
take_first-requires c = c.in-First.ensures.found.0

pub take_second-requires : goal.take_second-requires
take_second-requires c = c.in-Second.ensures.found.0

pub returns-in-First-clause-merged : goal.returns-in-First-clause-merged
returns-in-First-clause-merged c =
    let t = c.in-First.t in
    (step_first c.args.numbers.now c.args.a.now c.args.b.now c.next.ensures.rising c.args.self.now c.take_first.result c.take_first.new.self (keyed t.row (key_of t.key)) c.in-First.ensures.found.0 c.in-First.ensures.found.1 c.take_first.ensures.ok c.take_first.ensures.err).merged

pub returns-in-First-clause-ok : goal.returns-in-First-clause-ok
returns-in-First-clause-ok c =
    let t = c.in-First.t in
    (step_first c.args.numbers.now c.args.a.now c.args.b.now c.next.ensures.rising c.args.self.now c.take_first.result c.take_first.new.self (keyed t.row (key_of t.key)) c.in-First.ensures.found.0 c.in-First.ensures.found.1 c.take_first.ensures.ok c.take_first.ensures.err).ok

pub returns-in-Second-clause-merged : goal.returns-in-Second-clause-merged
returns-in-Second-clause-merged c =
    let t = c.in-Second.u in
    (step_second c.args.numbers.now c.args.a.now c.args.b.now c.next.ensures.rising c.args.self.now c.take_second.result c.take_second.new.self (keyed t.row (key_of t.key)) c.in-Second.ensures.found.0 c.in-Second.ensures.found.1 c.take_second.ensures.ok c.take_second.ensures.err).merged

pub returns-in-Second-clause-ok : goal.returns-in-Second-clause-ok
returns-in-Second-clause-ok c =
    let t = c.in-Second.u in
    (step_second c.args.numbers.now c.args.a.now c.args.b.now c.next.ensures.rising c.args.self.now c.take_second.result c.take_second.new.self (keyed t.row (key_of t.key)) c.in-Second.ensures.found.0 c.in-Second.ensures.found.1 c.take_second.ensures.ok c.take_second.ensures.err).ok

pub returns-in-Neither-clause-ok : goal.returns-in-Neither-clause-ok
returns-in-Neither-clause-ok c =
    let none = took_none c.args.numbers.now c.args.a.now c.args.b.now c.next.ensures.rising c.args.self.now c.in-Neither.ensures.found.0 c.in-Neither.ensures.found.1 in
    omega (arith, none)
