use Rattle.std.specs.Prelude.{flat_map}
use Rattle.std.proofs.Common.{List, subst}
use Rattle.rf2_values.specs.Row.{RowValue}
use Rattle.history_model.specs.History.{rows_at}
use Rattle.history_model.specs.Lists.{listed}
use Rattle.history_model.specs.Queries.{versions}
use Rattle.as_of_index.specs.Reader.{AnswersRows}
use Rattle.links.proofs.TimelineRows.{timeline_from_ids}
use Rattle.links.proofs.ever_about.timeline.Goals as goal

pub returns-clause-answer : goal.returns-clause-answer
returns-clause-answer g c =
    let r = g.R.RowReader in
    let read = c.versions_of.ensures.answer in record {
      rows = λ so.
          let a = c.args in
          let listed_so = so.0 in
          let lists = (r.view a.reader.now).lists in
          let are = rw listed_so at c.lists-listed.ensures.places in
          let ids = rw (c.as_slice.ensures, c.value.ensures.value) at (c.in_ok-ids.ensures lists listed_so) in
          let same = timeline_from_ids lists are a.links.now so.1 a.kind a.id a.pin c.in_ok-ids.ids.items ids in
          let Answers : List RowValue → Type 0 = λ xs. AnswersRows c.versions_of.result (λ rows. rows.items) xs r.cost (r.view a.reader.now) (r.view c.versions_of.new.reader) in
          subst Answers same (subst (λ is. Answers (flat_map (λ id. versions a.kind id (rows_at a.pin (listed lists))) is)) c.as_slice-2.ensures.value (read.rows listed_so));
      work = read.work;
      reader = read.reader;
    }

pub returns-clause-undamaged : goal.returns-clause-undamaged
returns-clause-undamaged g c = λ honest listed_so. (c.versions_of.ensures.answer.rows listed_so).undamaged honest
