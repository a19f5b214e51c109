use Rattle.std.specs.List.{sum_by, AllZip}
use Rattle.rf2_values.specs.Row.{RowValue}
use Rattle.std.proofs.Common.{Ok, ℕ, ◌+◌, ◌++◌, [], ◌∷◌, sym, ap, subst, ◌∙◌, take, map, rules, arith}
use Rattle.std.proofs.lemmas.List.Sums.{sum_by_push}
use Rattle.std.proofs.lemmas.List.{map_push}
use Rattle.history_model.specs.declared.stamped.StampedRow.{StampedRow}
use Rattle.segment.specs.Standing.{StandsAt}
use Rattle.as_of_index.proofs.Current.{stand_at, stand_end, rows_push, first_rows}
use Rattle.as_of_index.specs.Reader.{IsReadFor}
use Rattle.as_of_index.proofs.Returned.{reads_more}
use Rattle.as_of_index.proofs.Reading.{reads_on, has_read, read_so, fails_on}
use Rattle.as_of_index.proofs.chosen.read_all.Goals as goal

pub loop-k-preserved : goal.loop-k-preserved
loop-k-preserved g c =
    let a = c.args in
    let so_far = c.loop-k.invariant in
    let found = c.in_ok-found in
    record {
      reader = reads_on (Ok 0) _ _ _ so_far.reader (has_read _ _ _ found.ensures.reader);
      work = (let least = so_far.work in let more = found.ensures.work in rw (c.in_ok-push.ensures.items, sum_by_push g.R.RowReader.cost c.loop-k.rows.items found.found.row) (omega arith));
      work_always = λ rows stand.
          let f = g.R.RowReader.cost in
          let w = stand_at (g.R.RowReader.view a.reader.now).lists a.places.now rows c.loop-k.k-index c.k-item.result stand c.loop-k-test.true c.k-item.is in
          let stands = subst (λ ls. StandsAt ls c.k-item.result.segment c.k-item.result.at w.0) (sym so_far.reader.lists) w.1 in
          let least = so_far.work_always rows stand in
          let more = found.ensures.work_always w.0 stands in
          let sum = ap (λ xs. sum_by f (map (λ (s : StampedRow). s.row) xs)) w.2 ∙ rows_push f (take c.loop-k.k-index rows) w.0 in
          omega arith;
      stays = g.met.R.RowReader.stays_on a.reader.now _ _ so_far.stays found.ensures.stays;
      each = λ rows stand.
          let w = stand_at (g.R.RowReader.view a.reader.now).lists a.places.now rows c.loop-k.k-index c.k-item.result stand c.loop-k-test.true c.k-item.is in
          let first = take c.loop-k.k-index rows in
          rw c.in_ok-push.ensures.items
          (subst (λ xs. AllZip (IsReadFor (g.R.RowReader.view a.reader.now)) (c.loop-k.rows.items ++ found.found.row ∷ []) xs) (sym (map_push (λ (s : StampedRow). s.row) first w.0) ∙ ap (map (λ (s : StampedRow). s.row)) (sym w.2))
          (reads_more so_far.reader w.1 found.ensures.returned c.loop-k.rows.items (map (λ (s : StampedRow). s.row) first) (so_far.each rows stand)));
    }

pub returns-in_err-found-clause-answer : goal.returns-in_err-found-clause-answer
returns-in_err-found-clause-answer g c = λ rows stand.
    let f = g.R.RowReader.cost in
    let k = c.loop-k.k-index in
    let w = stand_at (g.R.RowReader.view c.args.reader.now).lists c.args.places.now rows k c.k-item.result stand c.loop-k-test.true c.k-item.is in
    let stands = subst (λ ls. StandsAt ls c.k-item.result.segment c.k-item.result.at w.0) (sym c.loop-k.invariant.reader.lists) w.1 in
    let least = c.loop-k.invariant.work_always rows stand in
    let more = c.in_err-found.ensures.work_always w.0 stands in
    let sum = ap (λ xs. sum_by f (map (λ (s : StampedRow). s.row) xs)) w.2 ∙ rows_push f (take k rows) w.0 in
    let all = first_rows f (k + 1) rows in
    record {
      each = search rules;
      undamaged = λ honest. (let other = c.in_err-found.ensures.undamaged (c.loop-k.invariant.reader.honesty honest) w.0 stands in search rules);
      causes = λ none.
          let one : RowValue → ℕ = λ row. 1 in
          let count = ap (λ xs. sum_by one (map (λ (s : StampedRow). s.row) xs)) w.2 ∙ rows_push one (take k rows) w.0 in
          let fewer = first_rows one (k + 1) rows in
          absurd (omega (arith, count, fewer, ap (sum_by one) none));
      work_always = omega arith;
    }

pub returns-in_err-found-clause-reader : goal.returns-in_err-found-clause-reader
returns-in_err-found-clause-reader g c = fails_on _ _ _ _ _ c.from_residual.ensures.1 c.loop-k.invariant.reader c.in_err-found.ensures.reader

pub returns-in_err-push-clause-answer : goal.returns-in_err-push-clause-answer
returns-in_err-push-clause-answer g c = λ rows stand.
    let f = g.R.RowReader.cost in
    let k = c.loop-k.k-index in
    let w = stand_at (g.R.RowReader.view c.args.reader.now).lists c.args.places.now rows k c.k-item.result stand c.loop-k-test.true c.k-item.is in
    let stands = subst (λ ls. StandsAt ls c.k-item.result.segment c.k-item.result.at w.0) (sym c.loop-k.invariant.reader.lists) w.1 in
    let least = c.loop-k.invariant.work_always rows stand in
    let more = c.in_ok-found.ensures.work_always w.0 stands in
    let sum = ap (λ xs. sum_by f (map (λ (s : StampedRow). s.row) xs)) w.2 ∙ rows_push f (take k rows) w.0 in
    let all = first_rows f (k + 1) rows in
    record {
      each = search rules;
      undamaged = λ honest. search rules;
      causes = λ none. search rules;
      work_always = omega arith;
    }

pub returns-clause-answer : goal.returns-clause-answer
returns-clause-answer g c = λ rows stand.
    let so_far = c.loop-k.invariant in
    let end = stand_end (g.R.RowReader.view c.args.reader.now).lists c.args.places.now rows c.loop-k.k-index stand c.loop-k-test.false in
    let least = so_far.work_always rows stand in
    let all = first_rows g.R.RowReader.cost c.loop-k.k-index rows in
    record {
      each = subst (λ xs. AllZip (IsReadFor (g.R.RowReader.view c.args.reader.now)) c.loop-k.rows.items (map (λ (s : StampedRow). s.row) xs)) end (so_far.each rows stand);
      undamaged = λ honest. tt;
      causes = λ none. tt;
      work_always = omega arith;
    }

pub returns-clause-reader : goal.returns-clause-reader
returns-clause-reader g c = read_so _ _ _ c.loop-k.invariant.reader
