use Rattle.std.proofs.Common.{drop, sym, ap, subst, take, ◌∙◌}
use Rattle.as_of_index.specs.Chosen.{StandAtAll}
use Rattle.as_of_index.specs.Reader.{AnswersRows}
use Rattle.term_words.proofs.search.find.Goals as goal

pub returns-clause-answer : goal.returns-clause-answer
returns-clause-answer g c =
    let r = g.R.RowReader in
    let read = c.read_all.ensures in record {
      rows = λ so.
          let a = c.args in
          let lists = (r.view a.reader.now).lists in
          let search = a.search.now in
          let w = (rw c.as_slice.ensures at c.in_ok-kept.ensures) lists so.0 so.1 in
          subst (λ xs. AnswersRows c.read_all.result (λ rows. rows.items) xs r.cost (r.view a.reader.now) (r.view c.read_all.new.reader)) w.2
          (read.answer w.0 (subst (λ ks. StandAtAll lists ks w.0) (sym (c.cut.ensures ∙ ap (λ ks. take search.limit (drop search.offset ks)) c.as_slice-2.ensures.value)) w.1));
      work = read.work;
      reader = read.reader;
    }
