use Rattle.std.proofs.Common.{sym, subst, ◌∙◌}
use Rattle.as_of_index.specs.Chosen.{StandAtAll}
use Rattle.as_of_index.specs.Reader.{AnswersRows}
use Rattle.as_of_index.specs.Private.Postings.{numbered}
use Rattle.term_prefix.specs.Private.{AreKept, begun}
use Rattle.term_prefix.proofs.Terming.{terms_from_kept, is_folded}
use Rattle.term_prefix.proofs.search.find.Goals as goal

pub returns-clause-answer : goal.returns-clause-answer
returns-clause-answer g c =
    let r = g.R.RowReader in
    let read = c.read_all.ensures in record {
      rows = λ so.
          let a = c.args in
          let listed_so = so.0 in
          let posts = so.1 in
          let lists = (r.view a.reader.now).lists in
          let are = rw listed_so at c.lists-listed.ensures.places in
          let kept = c.in_ok-kept.kept.items in
          let text_is = is_folded a.prefix.now c.as_bytes.result.now (c.as_bytes.ensures.value ∙ c.in_ok-folded.ensures) in
          let first = subst (λ text. AreKept lists a.search.now (begun lists text (numbered 0 a.terms.now)) kept) text_is ((rw (c.as_slice.ensures) at (c.in_ok-kept.ensures lists listed_so)) posts) in
          let w = terms_from_kept lists are a.terms.now posts a.prefix.now a.search.now kept first in
          subst (λ xs. AnswersRows c.read_all.result (λ rows. rows.items) xs r.cost (r.view a.reader.now) (r.view c.read_all.new.reader)) w.2
          (read.answer w.0 (subst (λ ks. StandAtAll lists ks w.0) (sym c.as_slice-2.ensures.value) w.1));
      work = read.work;
      reader = read.reader;
    }
