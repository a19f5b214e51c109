use Rattle.std.proofs.Common.{◌≡◌, [], ◌∷◌, refl, Ok, ◌+◌, ◌++◌, List, ℕ, get_or, sym, ap, subst, ◌∙◌, take, take_all, rules, arith}
use Rattle.std.specs.Prelude.{flat_map}
use Rattle.std.specs.List.{sum_by, AllZip}
use Rattle.std.proofs.lemmas.List.Sums.{sum_by-append, sum_by-cons}
use Rattle.rf2_values.specs.Row.{RowValue}
use Rattle.history_model.specs.History.{rows_at}
use Rattle.history_model.specs.Lists.{listed}
use Rattle.history_model.specs.Queries.{versions}
use Rattle.as_of_index.specs.Places.{Lists}
use Rattle.as_of_index.specs.Reader.{IsReadFor}
use Rattle.as_of_index.proofs.Returned.{reads_on_to}
use Rattle.as_of_index.proofs.Reading.{reads_on, has_read, read_so, fails_on}
use Rattle.links.proofs.TimelineRows.{pieces_more, pieces_before}
use Rattle.links.proofs.ever_about.versions_of.Goals as goal

no_rows : (rows : List RowValue) → sum_by (λ (row : RowValue). 1) rows ≡ 0 → rows ≡ []
no_rows [] zero = refl
no_rows (row ∷ rows) zero = absurd (omega (arith, zero, sum_by-cons (λ (r : RowValue). 1) row rows))

pub loop-id-preserved : goal.loop-id-preserved
loop-id-preserved g c =
    let a = c.args in
    let so_far = c.loop-id.invariant in
    let found = c.in_ok-versions in
    let lists = (g.R.RowReader.view a.reader.now).lists in
    let piece : ℕ → List RowValue = λ id. versions a.kind id (rows_at a.pin (listed lists)) in
    let f = g.R.RowReader.cost in
    record {
      reader = reads_on (Ok 0) _ _ _ so_far.reader (has_read _ _ _ found.ensures.answer.reader);
      work = (
          let least = so_far.work in
          let more = found.ensures.answer.work in
          let sum = sum_by-append f c.loop-id.rows.items found.versions.items in
          rw c.in_ok-append.ensures.items (omega arith));
      work_always = λ listed_so.
          let least = so_far.work_always listed_so in
          let more = (found.ensures.answer.rows (subst (λ ls. Lists a.index.now ls) (sym so_far.reader.lists) listed_so)).work_always in
          let own = ap (λ ls. sum_by f (versions a.kind (get_or a.ids.now c.loop-id.id-index 0) (rows_at a.pin (listed ls)))) so_far.reader.lists in
          let sum = ap (sum_by f) (pieces_more piece a.ids.now c.loop-id.id-index c.loop-id-test.true) ∙ sum_by-append f (flat_map piece (take c.loop-id.id-index a.ids.now)) (piece (get_or a.ids.now c.loop-id.id-index 0)) in
          omega arith;
      stays = g.met.R.RowReader.stays_on a.reader.now _ _ so_far.stays found.ensures.stays;
      each = λ listed_so.
          let id = get_or a.ids.now c.loop-id.id-index 0 in
          let own = ap (λ ls. versions a.kind id (rows_at a.pin (listed ls))) so_far.reader.lists in
          let read = (found.ensures.answer.rows (subst (λ ls. Lists a.index.now ls) (sym so_far.reader.lists) listed_so)).each in
          let before = flat_map piece (take c.loop-id.id-index a.ids.now) in
          rw c.in_ok-append.ensures.items
          (subst (λ xs. AllZip (IsReadFor (g.R.RowReader.view a.reader.now)) (c.loop-id.rows.items ++ found.versions.items) xs) (ap (λ xs. before ++ xs) own ∙ sym (pieces_more piece a.ids.now c.loop-id.id-index c.loop-id-test.true))
          (reads_on_to so_far.reader c.loop-id.rows.items before found.versions.items _ (so_far.each listed_so) read));
    }

pub returns-in_err-versions-clause-answer : goal.returns-in_err-versions-clause-answer
returns-in_err-versions-clause-answer g c =
    let a = c.args in
    let f = g.R.RowReader.cost in
    let so_far = c.loop-id.invariant in
    let lists = (g.R.RowReader.view a.reader.now).lists in
    let piece : ℕ → List RowValue = λ id. versions a.kind id (rows_at a.pin (listed lists)) in
    let own = ap (λ ls. sum_by f (versions a.kind (get_or a.ids.now c.loop-id.id-index 0) (rows_at a.pin (listed ls)))) so_far.reader.lists in
    let sum = ap (sum_by f) (pieces_more piece a.ids.now c.loop-id.id-index c.loop-id-test.true) ∙ sum_by-append f (flat_map piece (take c.loop-id.id-index a.ids.now)) (piece (get_or a.ids.now c.loop-id.id-index 0)) in
    let all = pieces_before f piece a.ids.now (c.loop-id.id-index + 1) in
    record {
      rows = λ listed_so.
          let read = c.in_err-versions.ensures.answer.rows (subst (λ ls. Lists a.index.now ls) (sym so_far.reader.lists) listed_so) in
          let least = so_far.work_always listed_so in
          let more = read.work_always in
          record {
            each = search rules;
            undamaged = λ honest. (let other = read.undamaged (so_far.reader.honesty honest) in search rules);
            causes = λ none.
                let one : RowValue → ℕ = λ row. 1 in
                let id = get_or a.ids.now c.loop-id.id-index 0 in
                let count = ap (sum_by one) (pieces_more piece a.ids.now c.loop-id.id-index c.loop-id-test.true) ∙ sum_by-append one (flat_map piece (take c.loop-id.id-index a.ids.now)) (piece id) in
                let fewer = pieces_before one piece a.ids.now (c.loop-id.id-index + 1) in
                let unwanted = no_rows (piece id) (omega (arith, count, fewer, ap (sum_by one) none)) in
                let other = read.causes (ap (λ ls. versions a.kind id (rows_at a.pin (listed ls))) so_far.reader.lists ∙ unwanted) in
                search rules;
            work_always = omega arith;
          };
      work = search rules;
      reader = fails_on _ _ _ _ _ c.from_residual.ensures.1 so_far.reader c.in_err-versions.ensures.answer.reader;
    }

pub returns-in_err-append-clause-answer : goal.returns-in_err-append-clause-answer
returns-in_err-append-clause-answer g c =
    let a = c.args in
    let f = g.R.RowReader.cost in
    let so_far = c.loop-id.invariant in
    let lists = (g.R.RowReader.view a.reader.now).lists in
    let piece : ℕ → List RowValue = λ id. versions a.kind id (rows_at a.pin (listed lists)) in
    let own = ap (λ ls. sum_by f (versions a.kind (get_or a.ids.now c.loop-id.id-index 0) (rows_at a.pin (listed ls)))) so_far.reader.lists in
    let sum = ap (sum_by f) (pieces_more piece a.ids.now c.loop-id.id-index c.loop-id-test.true) ∙ sum_by-append f (flat_map piece (take c.loop-id.id-index a.ids.now)) (piece (get_or a.ids.now c.loop-id.id-index 0)) in
    let all = pieces_before f piece a.ids.now (c.loop-id.id-index + 1) in
    record {
      rows = λ listed_so.
          let read = c.in_ok-versions.ensures.answer.rows (subst (λ ls. Lists a.index.now ls) (sym so_far.reader.lists) listed_so) in
          let least = so_far.work_always listed_so in
          let more = read.work_always in
          record {
            each = search rules;
            undamaged = λ honest. search rules;
            causes = λ none. search rules;
            work_always = omega arith;
          };
      work = search rules;
      reader = search rules;
    }

pub returns-clause-answer : goal.returns-clause-answer
returns-clause-answer g c =
    let a = c.args in
    let f = g.R.RowReader.cost in
    let so_far = c.loop-id.invariant in
    let piece : ℕ → List RowValue = λ id. versions a.kind id (rows_at a.pin (listed (g.R.RowReader.view a.reader.now).lists)) in
    let end = take_all c.loop-id.id-index a.ids.now c.loop-id-test.false in
    let all = pieces_before f piece a.ids.now c.loop-id.id-index in
    record {
      rows = λ listed_so.
          let least = so_far.work_always listed_so in
          record {
            each = subst (λ ids. AllZip (IsReadFor (g.R.RowReader.view a.reader.now)) c.loop-id.rows.items (flat_map piece ids)) end (so_far.each listed_so);
            undamaged = λ honest. tt;
            causes = λ none. tt;
            work_always = omega arith;
          };
      work = so_far.work;
      reader = read_so _ _ _ so_far.reader;
    }
