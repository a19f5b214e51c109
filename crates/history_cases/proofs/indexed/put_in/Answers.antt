use Rattle.history_cases.proofs.Replaced.{replaced_places}
use Rattle.history_cases.proofs.indexed.put_in.Goals as goal

pub replace_two-requires-clause-lists : goal.replace_two-requires-clause-lists
replace_two-requires-clause-lists c =
    replaced_places c.args.index.now c.args.i c.args.j c.args.list (c.may_add.ensures.0 c.if-not-may_add.false).1
