use Rattle.std.proofs.Common.{length, sym, ap, ◌∙◌}
use Rattle.std.specs.List.{filter}
use Rattle.std.specs.Prelude.{nat_lt}
use Rattle.list_lemmas.proofs.Kept.{length-filter-map}
use Rattle.history_model.specs.Queries.{component_of}
use Rattle.plain_history.proofs.membership.is_among_first.Goals as goal

pub returns : goal.returns
returns c =
    let a = c.args in
    ap (λ n. nat_lt n a.limit) (c.count_below.ensures
    ∙ ap (λ m. length (filter (λ r. nat_lt (component_of r.now) m) a.rows.now)) c.component_of.ensures
    ∙ sym (length-filter-map (λ r. r.now) (λ other. nat_lt (component_of other) (component_of a.row.now)) a.rows.now))
