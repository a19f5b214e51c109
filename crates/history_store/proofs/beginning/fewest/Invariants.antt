use Rattle.history_store.proofs.FewestRows.{AreFewestBelow}
use Rattle.history_store.proofs.beginning.fewest.Given as goal

-- those of the segments so far
abbrev pub invariant-loop-k : goal.invariant-loop-k
invariant-loop-k l = AreFewestBelow l.entries l.k l.first l.second
