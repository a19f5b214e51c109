use Rattle.history_model.proofs.ghost_rows.GhostRows.copy.Given as goal

abbrev pub ghost-any : goal.ghost-any
ghost-any a = a.of.now
