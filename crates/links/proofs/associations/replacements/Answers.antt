use Rattle.std.proofs.Common.{List, Ok, Err, subst, Vec, Global}
use Rattle.std.specs.List.{filter}
use Rattle.rf2_values.specs.Row.{RowValue}
use Rattle.history_model.specs.declared.stamped.StampedRow.{StampedRow}
use Rattle.history_model.specs.Lists.{listed}
use Rattle.history_model.specs.Queries.{replacements, snapshot, is_replacement_of}
use Rattle.history_model.proofs.Snapshots.{IsAscending-listed, IsAscending-rows_at}
use Rattle.history_model.proofs.Ascents.{replacements_total}
use Rattle.as_of_index.specs.Current.{rows_seen}
use Rattle.as_of_index.specs.Places.{Lists}
use Rattle.as_of_index.specs.Reader.{IsRowsRead}
use Rattle.links.specs.Laws.{EachPosted}
use Rattle.links.proofs.Arranged.{replacements_apart, about_are_replacements}
use Rattle.links.proofs.OrderedRows.{ordered_read, ordered_refused}
use Rattle.std.proofs.lemmas.Result.{err_from_is_err_and}
use Rattle.links.proofs.associations.replacements.Goals as goal

pub returns-clause-answer : goal.returns-clause-answer
unfolding replacements
returns-clause-answer g c =
    let r = g.R.RowReader in
    let a = c.args in
    let old = r.view a.reader.now in
    let up = IsAscending-rows_at a.as_of.pin (listed old.lists) (IsAscending-listed old.lists) in
    let Kept : List (List StampedRow) → Type 0 = λ lists. Lists a.index.now lists × EachPosted lists a.links.now in
    let wanted : List (List StampedRow) → List RowValue = λ lists. filter (is_replacement_of a.component) (snapshot (rows_seen a.as_of lists) a.as_of.date) in
    ordered_read (λ rows. rows.items) replacements_total wanted Kept
    r.cost old (r.view c.about_of.new.reader) c.in_ok-rows.rows c.sort_by_target.new.rows
    (replacements_apart a.component a.as_of.date (rows_seen a.as_of old.lists) up)
    (subst (λ (those : List (List StampedRow) → List RowValue). IsRowsRead (Ok c.in_ok-rows.rows) (λ rows. rows.items) those Kept r.cost old (r.view c.about_of.new.reader)) (λ i lists. about_are_replacements a.component a.as_of.date (rows_seen a.as_of lists) i)
    (rw c.value-id.ensures.value at c.in_ok-rows.ensures.answer))
    c.sort_by_target.ensures.same c.sort_by_target.ensures.sorted

pub returns-in_err-rows-clause-answer : goal.returns-in_err-rows-clause-answer
unfolding replacements
returns-in_err-rows-clause-answer g c =
    let r = g.R.RowReader in
    let a = c.args in
    let old = r.view a.reader.now in
    let up = IsAscending-rows_at a.as_of.pin (listed old.lists) (IsAscending-listed old.lists) in
    let Kept : List (List StampedRow) → Type 0 = λ lists. Lists a.index.now lists × EachPosted lists a.links.now in
    let wanted : List (List StampedRow) → List RowValue = λ lists. filter (is_replacement_of a.component) (snapshot (rows_seen a.as_of lists) a.as_of.date) in
    let p = err_from_is_err_and c.from_residual.result c.from_residual.ensures.1 in
    rw (p.1, p.2)
    (ordered_refused (λ rows. rows.items) replacements_total wanted Kept
    r.cost old (r.view c.about_of.new.reader) c.in_err-rows.field-0.0
    (replacements_apart a.component a.as_of.date (rows_seen a.as_of old.lists) up)
    (subst (λ (those : List (List StampedRow) → List RowValue). IsRowsRead {T = Vec RowValue Global} (Err c.in_err-rows.field-0.0) (λ rows. rows.items) those Kept r.cost old (r.view c.about_of.new.reader)) (λ i lists. about_are_replacements a.component a.as_of.date (rows_seen a.as_of lists) i)
    (rw c.value-id.ensures.value at c.in_err-rows.ensures.answer)))
