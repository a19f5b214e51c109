use Rattle.std.proofs.Common.{sym, subst, ◌∙◌}
use Rattle.as_of_index.specs.Chosen.{StandAtAll}
use Rattle.as_of_index.specs.Reader.{AnswersRows}
use Rattle.links.proofs.MemberPages.{page_from_found}
use Rattle.links.proofs.member_pages.member_page.Goals as goal

pub returns-clause-answer : goal.returns-clause-answer
returns-clause-answer g c test is_path =
    let r = g.R.RowReader in
    let read = c.read_all.ensures in record {
      rows = λ so.
          let a = c.args in
          let listed_so = so.0 in
          let posts = so.1 in
          let lists = (r.view a.reader.now).lists in
          let are = rw listed_so at c.lists-listed.ensures.places in
          let kept = rw c.as_slice-links.ensures at (c.in_ok-kept.ensures lists listed_so) in
          let w = page_from_found lists are a.links.now posts a.as_of test a.wanted is_path a.after a.limit c.in_ok-kept.kept.items kept in
          subst (λ xs. AnswersRows c.read_all.result (λ rows. rows.items) xs r.cost (r.view a.reader.now) (r.view c.read_all.new.reader)) w.2
          (read.answer w.0 (subst (λ ks. StandAtAll lists ks w.0) (sym (c.as_slice.ensures.value ∙ c.truncate.ensures.items)) w.1));
      work = read.work;
      reader = read.reader;
    }
