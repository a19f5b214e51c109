use Rattle.std.proofs.Common.{subst}
use Rattle.history_model.specs.Lists.{listed}
use Rattle.as_of_index.specs.Reader.{AnswersRows}
use Rattle.as_of_index.proofs.KeyOrder.{order_is_added}
use Rattle.as_of_index.proofs.index.Index.added.Goals as goal

pub returns-clause-answer : goal.returns-clause-answer
returns-clause-answer g c =
    let a = c.args in
    let r = g.R.RowReader in
    let old = r.view a.reader.now in
    let e = c.in_key_order.ensures.answer in
    record {
      rows = λ listed_so. subst (λ xs. AnswersRows c.in_key_order.result (λ rows. rows.items) xs r.cost old (r.view c.in_key_order.new.reader))
          (order_is_added a.number a.kind a.after a.limit (listed old.lists)) (e.rows listed_so);
      work = e.work;
      reader = e.reader;
    }
