use Rattle.std.proofs.Common.{take}
use Rattle.history_model.proofs.ghost_rows.GhostRows.cut_to.Given as goal

abbrev pub ghost-any : goal.ghost-any
ghost-any a = take a.of.now.1 a.of.now.0.value
