use Rattle.std.proofs.Common.{◌≡◌, ◌+◌, take}
use Rattle.history_model.specs.InOrder.{put_all}
use Rattle.history_model.specs.History.{stamped, stamped_cmp}
use Rattle.plain_history.proofs.releases.after_release.Given as goal

-- the rows so far are put in turn
abbrev pub invariant-loop-row : goal.invariant-loop-row
invariant-loop-row l = l.after.items ≡ put_all stamped_cmp (stamped (l.imports + 1) (take l.row-index l.release)) l.rows
