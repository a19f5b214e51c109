use Rattle.std.proofs.Common.{◌+◌, ◌≤◌, List, take, map}
use Rattle.std.specs.List.{sum_by, AllZip}
use Rattle.as_of_index.specs.Reader.{IsReadFor}
use Rattle.history_model.specs.declared.stamped.StampedRow.{StampedRow}
use Rattle.as_of_index.specs.Chosen.{StandAtAll}
use Rattle.as_of_index.proofs.Reading.{HasRead}
use Rattle.as_of_index.proofs.chosen.read_all.Given as goal

abbrev pub invariant-loop-k : goal.invariant-loop-k
invariant-loop-k g l =
    let r = g.R.RowReader in
    record {
      reader : HasRead (r.view l.fn.reader) (r.view l.reader);
      work : (r.view l.reader).work ≤ (r.view l.fn.reader).work + sum_by r.cost l.rows.items;
      work_always : (rows : List StampedRow) → StandAtAll (r.view l.fn.reader).lists l.places rows → (r.view l.reader).work ≤ (r.view l.fn.reader).work + sum_by r.cost (map (λ (s : StampedRow). s.row) (take l.k-index rows));
      stays : r.stays l.fn.reader l.reader;
      each : (rows : List StampedRow) → StandAtAll (r.view l.fn.reader).lists l.places rows → AllZip (IsReadFor (r.view l.fn.reader)) l.rows.items (map (λ (s : StampedRow). s.row) (take l.k-index rows));
    }
