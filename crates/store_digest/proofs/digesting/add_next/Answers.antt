use Rattle.std.proofs.Common.{◌∙◌, sym, ap}
use Rattle.std.specs.List.{slice_get}
use Rattle.history_store.proofs.Querying.{row_items}
use Rattle.store_digest.proofs.Added.{row_added, none_added, none_first}
use Rattle.store_digest.proofs.digesting.add_next.Goals as goal

pub returns-in-Some-clause-added : goal.returns-in-Some-clause-added
returns-in-Some-clause-added g c =
    let d = g.D.Disk in
    row_added d.view c.args.pin c.args.after c.args.store.now c.rows_after.new.self row_items c.in_ok-rows.rows c.in-Some.row.now c.key.result c.args.hasher.now c.add_row.new.hasher c.in_ok-rows.ensures.answer
    (ap (λ items. slice_get items 0) (sym c.deref.ensures.value) ∙ sym c.in-Some.ensures.value) c.key.ensures.key c.in_ok-add_row-in-Some.ensures

pub returns-clause-added : goal.returns-clause-added
returns-clause-added g c =
    let d = g.D.Disk in
    none_added d.view c.args.pin c.args.after c.args.store.now c.rows_after.new.self row_items c.in_ok-rows.rows c.args.hasher.now c.in_ok-rows.ensures.answer
    (none_first (row_items c.in_ok-rows.rows) (c.in-None.ensures.value ∙ ap (λ items. slice_get items 0) c.deref.ensures.value))
