use Rattle.std.proofs.Common.{[]}
use Rattle.history_model.proofs.ghost_rows.GhostRows.new.Given as goal

abbrev pub ghost-any : goal.ghost-any
ghost-any a = []
