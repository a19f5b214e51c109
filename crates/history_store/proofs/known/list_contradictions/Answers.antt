use Rattle.std.proofs.Common.{arith, rules}
use Rattle.std.proofs.lemmas.Grind.{common_steps}
use Rattle.history_store.proofs.known.list_contradictions.Goals as goal

pub returns-in_err-hints-clause-meters : goal.returns-in_err-hints-clause-meters
returns-in_err-hints-clause-meters g c = record {
  work = first_of (search rules, grind (arith, common_steps));
  work_unread = first_of (search rules, grind (arith, common_steps));
  disk_faults = first_of (search rules, grind (arith, common_steps));
  damages = first_of (search rules, grind (arith, common_steps));
}

pub returns-clause-meters : goal.returns-clause-meters
returns-clause-meters g c = record {
  work = first_of (search rules, grind (arith, common_steps));
  work_unread = first_of (search rules, grind (arith, common_steps));
  disk_faults = first_of (search rules, grind (arith, common_steps));
  damages = first_of (search rules, grind (arith, common_steps));
}
