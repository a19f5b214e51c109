use Rattle.std.proofs.Common.{map, take_all, sym, ap, ◌∙◌}
use Rattle.std.specs.List.{filter}
use Rattle.history_model.specs.Queries.{is_term_above}
use Rattle.plain_history.proofs.Listed.{filter_of_map}
use Rattle.plain_history.proofs.descriptions.with_term.Goals as goal

pub returns : goal.returns
returns c =
    let a = c.args in
    ap (map (λ r. r.now)) (c.loop-row.invariant ∙ ap (filter (λ row. is_term_above a.prefix.now a.after row.now)) (take_all c.loop-row.row-index a.rows.now c.loop-row-test.false))
    ∙ sym (filter_of_map (λ r. r.now) (is_term_above a.prefix.now a.after) a.rows.now)
