use Rattle.std.proofs.Common.{take}
use Rattle.history_model.specs.Brought.{brought_by, IsLatestDay}
use Rattle.plain_history.proofs.releases.latest_brought.Given as goal

-- of the rows so far
abbrev pub invariant-loop-s : goal.invariant-loop-s
invariant-loop-s l = IsLatestDay l.latest (brought_by l.number (take l.s-index l.rows))
