use Rattle.as_of_index.proofs.OneNumber.{none_known_yet}
use Rattle.as_of_index.proofs.number_table.NumberTable.new.Goals as goal

pub returns-clause-known : goal.returns-clause-known
returns-clause-known c = λ lists. none_known_yet lists c.new.result.items c.new-2.result.items c.new.ensures.items c.new-2.ensures.items
