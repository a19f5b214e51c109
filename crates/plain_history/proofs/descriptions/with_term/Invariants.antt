use Rattle.std.proofs.Common.{◌≡◌, take}
use Rattle.std.specs.List.{filter}
use Rattle.history_model.specs.Queries.{is_term_above}
use Rattle.plain_history.proofs.descriptions.with_term.Given as goal

abbrev pub invariant-loop-row : goal.invariant-loop-row
invariant-loop-row l = l.found.items ≡ filter (λ row. is_term_above l.prefix l.after row.now) (take l.row-index l.rows)
