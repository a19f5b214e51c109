use Rattle.history_model.specs.Lists.{union}
use Rattle.history_model.proofs.ghost_rows.GhostRows.union.Given as goal

abbrev pub ghost-any : goal.ghost-any
ghost-any a = union a.of.now.0.value a.of.now.1.value
