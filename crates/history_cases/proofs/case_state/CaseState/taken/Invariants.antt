use Rattle.merge.specs.Merged.{IsOf}
use Rattle.history_cases.proofs.case_state.CaseState.taken.Given as goal

abbrev pub invariant-loop-count : goal.invariant-loop-count
invariant-loop-count l = IsOf l.merging l.a.items l.b.items
