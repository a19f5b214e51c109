use Rattle.std.specs.List.{filter}
use Rattle.history_model.specs.Lists.{listed}
use Rattle.history_model.specs.Queries.{replaces, snapshot, is_replaced_by}
use Rattle.history_model.proofs.Snapshots.{IsAscending-listed, IsAscending-rows_at}
use Rattle.history_model.proofs.Audits.{replaced_total}
use Rattle.as_of_index.specs.Current.{rows_seen}
use Rattle.as_of_index.specs.Places.{Lists}
use Rattle.links.specs.Laws.{EachPosted}
use Rattle.links.proofs.Arranged.{replaced_apart}
use Rattle.links.proofs.OrderedRows.{ordered_read, ordered_refused}
use Rattle.links.proofs.Paths.{path_of_targets}
use Rattle.std.proofs.lemmas.Result.{err_from_is_err_and}
use Rattle.links.proofs.associations.replaces.Goals as goal

pub returns-clause-answer : goal.returns-clause-answer
unfolding replaces
returns-clause-answer g c =
    let r = g.R.RowReader in
    let a = c.args in
    let old = r.view a.reader.now in
    let up = IsAscending-rows_at a.as_of.pin (listed old.lists) (IsAscending-listed old.lists) in
    ordered_read (λ rows. rows.items) replaced_total
    (λ lists. filter (is_replaced_by a.component) (snapshot (rows_seen a.as_of lists) a.as_of.date)) (λ lists. Lists a.index.now lists × EachPosted lists a.links.now)
    r.cost old (r.view c.select.new.reader) c.in_ok-rows.rows c.sort_by_referenced.new.rows
    (replaced_apart a.component a.as_of.date (rows_seen a.as_of old.lists) up)
    (rw (c.asked_for-asked.ensures, c.all_with.ensures, c.value.ensures.value) at (c.in_ok-rows.ensures.answer (is_replaced_by a.component) (rw (c.asked_for-asked.ensures, c.all_with.ensures, c.value.ensures.value) (path_of_targets a.component))))
    c.sort_by_referenced.ensures.same c.sort_by_referenced.ensures.sorted

pub returns-in_err-rows-clause-answer : goal.returns-in_err-rows-clause-answer
unfolding replaces
returns-in_err-rows-clause-answer g c =
    let r = g.R.RowReader in
    let a = c.args in
    let old = r.view a.reader.now in
    let up = IsAscending-rows_at a.as_of.pin (listed old.lists) (IsAscending-listed old.lists) in
    let p = err_from_is_err_and c.from_residual.result c.from_residual.ensures.1 in
    rw (p.1, p.2)
    (ordered_refused (λ rows. rows.items) replaced_total
    (λ lists. filter (is_replaced_by a.component) (snapshot (rows_seen a.as_of lists) a.as_of.date)) (λ lists. Lists a.index.now lists × EachPosted lists a.links.now)
    r.cost old (r.view c.select.new.reader) c.in_err-rows.field-0.0
    (replaced_apart a.component a.as_of.date (rows_seen a.as_of old.lists) up)
    (rw (c.asked_for-asked.ensures, c.all_with.ensures, c.value.ensures.value) at (c.in_err-rows.ensures.answer (is_replaced_by a.component) (rw (c.asked_for-asked.ensures, c.all_with.ensures, c.value.ensures.value) (path_of_targets a.component)))))
