use Rattle.as_of_index.specs.Numbers.{AreKnown}
use Rattle.history_cases.proofs.limits.numbers_alone.Given as goal

abbrev pub invariant-loop-step : goal.invariant-loop-step
invariant-loop-step l = AreKnown (record { first = l.first; second = l.second }) l.table
