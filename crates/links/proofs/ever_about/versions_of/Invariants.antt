use Rattle.std.proofs.Common.{◌+◌, ◌≤◌, take}
use Rattle.std.specs.Prelude.{flat_map}
use Rattle.std.specs.List.{sum_by, AllZip}
use Rattle.history_model.specs.History.{rows_at}
use Rattle.history_model.specs.Lists.{listed}
use Rattle.history_model.specs.Queries.{versions}
use Rattle.as_of_index.specs.Places.{Lists}
use Rattle.as_of_index.specs.Reader.{IsReadFor}
use Rattle.as_of_index.proofs.Reading.{HasRead}
use Rattle.links.proofs.ever_about.versions_of.Given as goal

-- the versions of the components before this one
abbrev pub invariant-loop-id : goal.invariant-loop-id
invariant-loop-id g l =
    let r = g.R.RowReader in
    record {
      reader : HasRead (r.view l.fn.reader) (r.view l.reader);
      work : (r.view l.reader).work ≤ (r.view l.fn.reader).work + sum_by r.cost l.rows.items;
      work_always : Lists l.index (r.view l.fn.reader).lists → (r.view l.reader).work ≤ (r.view l.fn.reader).work + sum_by r.cost (flat_map (λ id. versions l.kind id (rows_at l.pin (listed (r.view l.fn.reader).lists))) (take l.id-index l.ids));
      stays : r.stays l.fn.reader l.reader;
      each : Lists l.index (r.view l.fn.reader).lists → AllZip (IsReadFor (r.view l.fn.reader)) l.rows.items (flat_map (λ id. versions l.kind id (rows_at l.pin (listed (r.view l.fn.reader).lists))) (take l.id-index l.ids));
    }
