use Rattle.std.proofs.Common.{arith, rules}
use Rattle.std.proofs.lemmas.Grind.{common_steps}
use Rattle.disk_model.proofs.Images.{same_but_all}
use Rattle.disk_model.proofs.MomentSteps.{stayed}
use Rattle.history_store.proofs.starting.start.Goals as goal

pub returns-in_err-index-clause-inside : goal.returns-in_err-index-clause-inside
returns-in_err-index-clause-inside g c honest = stayed _ _ _ (c.check_empty.ensures.moments honest) (λ f image. (f, image, same_but_all 0 16384 f))

pub returns-in_err-check_empty-clause-meters : goal.returns-in_err-check_empty-clause-meters
returns-in_err-check_empty-clause-meters g c = record { counts = first_of (search rules, grind (arith, common_steps)); looked = first_of (search rules, grind (arith, common_steps)); calls = first_of (search rules, grind (arith, common_steps)) }

pub returns-in_err-index-clause-meters : goal.returns-in_err-index-clause-meters
returns-in_err-index-clause-meters g c = record { counts = first_of (search rules, grind (arith, common_steps)); looked = first_of (search rules, grind (arith, common_steps)); calls = first_of (search rules, grind (arith, common_steps)) }

pub returns-in_err-cache-clause-meters : goal.returns-in_err-cache-clause-meters
returns-in_err-cache-clause-meters g c = record { counts = first_of (search rules, grind (arith, common_steps)); looked = first_of (search rules, grind (arith, common_steps)); calls = first_of (search rules, grind (arith, common_steps)) }

pub returns-in_err-slot-clause-meters : goal.returns-in_err-slot-clause-meters
returns-in_err-slot-clause-meters g c = record { counts = first_of (search rules, grind (arith, common_steps)); looked = first_of (search rules, grind (arith, common_steps)); calls = first_of (search rules, grind (arith, common_steps)) }

pub returns-clause-meters : goal.returns-clause-meters
returns-clause-meters g c = record { counts = first_of (search rules, grind (arith, common_steps)); looked = first_of (search rules, grind (arith, common_steps)); calls = first_of (search rules, grind (arith, common_steps)) }
