use Rattle.std.proofs.Common.{◌≡◌, ◌++◌, ◌-◌, ◌+◌, ◌≤◌, List, length}
use Rattle.std.specs.List.{filter, sum_by, AllZip}
use Rattle.rf2_values.specs.Row.{RowValue}
use Rattle.as_of_index.specs.Reader.{IsReadFor}
use Rattle.history_model.specs.Lists.{listed}
use Rattle.as_of_index.specs.Places.{Lists}
use Rattle.as_of_index.specs.Private.Search.{all_places}
use Rattle.as_of_index.specs.Private.KeyOrder.{is_wanted, rows_of_imports, in_key_order}
use Rattle.as_of_index.proofs.Reading.{HasRead}
use Rattle.as_of_index.proofs.index.Index.in_key_order.Given as goal

abbrev pub invariant-loop-self : goal.invariant-loop-self
invariant-loop-self g l =
    let r = g.R.RowReader in
    record {
      within : length l.rows.items ≤ l.limit;
      reader : HasRead (r.view l.fn.reader) (r.view l.reader);
      work : (r.view l.reader).work ≤ (r.view l.fn.reader).work + sum_by r.cost l.rows.items;
      work_always : Lists l.self (r.view l.fn.reader).lists → (r.view l.reader).work + sum_by r.cost (in_key_order l.kind l.latest (l.limit - length l.rows.items) (rows_of_imports l.first l.last (listed (r.view l.fn.reader).lists))) ≤ (r.view l.fn.reader).work + sum_by r.cost (in_key_order l.kind l.fn.after l.limit (rows_of_imports l.first l.last (listed (r.view l.fn.reader).lists)));
      stays : r.stays l.fn.reader l.reader;
      each : Lists l.self (r.view l.fn.reader).lists → (right : List RowValue) × AllZip (IsReadFor (r.view l.fn.reader)) l.rows.items right × (right ++ in_key_order l.kind l.latest (l.limit - length right) (rows_of_imports l.first l.last (listed (r.view l.fn.reader).lists)) ≡ in_key_order l.kind l.fn.after l.limit (rows_of_imports l.first l.last (listed (r.view l.fn.reader).lists)));
    }

abbrev pub decreases-loop-self : goal.decreases-loop-self
decreases-loop-self g l = length (filter (λ x. is_wanted l.kind l.latest x.1.key) (all_places 0 l.self))
