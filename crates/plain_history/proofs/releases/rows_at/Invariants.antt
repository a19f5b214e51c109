use Rattle.std.proofs.Common.{◌≡◌, take}
use Rattle.history_model.specs.History.{rows_at}
use Rattle.plain_history.proofs.releases.rows_at.Given as goal

-- what the pin shows of the rows so far
abbrev pub invariant-loop-s : goal.invariant-loop-s
invariant-loop-s l = l.shown.items ≡ rows_at l.pin (take l.s-index l.rows)
