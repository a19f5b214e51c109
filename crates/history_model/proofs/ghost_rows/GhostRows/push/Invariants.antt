use Rattle.std.proofs.Common.{[], ◌∷◌, ◌++◌}
use Rattle.history_model.proofs.ghost_rows.GhostRows.push.Given as goal

abbrev pub ghost-any : goal.ghost-any
ghost-any a = a.of.now.0.value ++ a.of.now.1.value ∷ []
