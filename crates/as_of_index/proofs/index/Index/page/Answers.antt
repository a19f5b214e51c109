use Rattle.std.proofs.Common.{subst}
use Rattle.as_of_index.specs.Current.{rows_seen}
use Rattle.as_of_index.specs.Reader.{AnswersRows}
use Rattle.as_of_index.proofs.Paging.{walked_page}
use Rattle.as_of_index.proofs.index.Index.page.Goals as goal

pub returns-clause-answer : goal.returns-clause-answer
returns-clause-answer g c =
    let a = c.args in
    let r = g.R.RowReader in
    let old = r.view a.reader.now in
    let e = c.walk.ensures.answer in
    record {
      rows = λ listed_so. subst (λ xs. AnswersRows c.walk.result (λ rows. rows.items) xs r.cost old (r.view c.walk.new.reader))
          (walked_page a.kind a.as_of.date a.after a.limit (rows_seen a.as_of old.lists)) (e.rows listed_so);
      work = e.work;
      reader = e.reader;
    }
