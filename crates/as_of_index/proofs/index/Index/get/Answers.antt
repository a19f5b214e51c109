use Rattle.std.specs.Option.{option_to_list}
use Rattle.std.specs.List.{sum_by}
use Rattle.std.proofs.Common.{◌≡◌, [], Option, Some, None, ap, rules, arith}
use Rattle.rf2_values.specs.Row.{RowValue}
use Rattle.as_of_index.proofs.Reading.{not_read, fails_on}
use Rattle.as_of_index.proofs.Returned.{reads_one}
use Rattle.as_of_index.proofs.index.Index.get.Goals as goal

wanted_row : (row : RowValue) (found : Option RowValue) → found ≡ Some row → option_to_list found ≡ [] → ⊥
wanted_row row None same none = absurd (cc)
wanted_row row (Some x) same none = absurd (cc)

pub returns-in_ok-stamped-in-Some-clause-answer : goal.returns-in_ok-stamped-in-Some-clause-answer
returns-in_ok-stamped-in-Some-clause-answer g c =
    let lists = (g.R.RowReader.view c.args.reader.now).lists in
    let read = c.in_ok-stamped-in-Some in record {
      rows = λ listed_so.
          let w = c.in-Some.ensures.found lists listed_so in
          let more = read.ensures.work_always w.0 w.1 in
          let cost = ap (λ o. sum_by g.R.RowReader.cost (option_to_list o)) w.2 in
          record {
            each = reads_one (not_read (g.R.RowReader.view c.args.reader.now)) w.1 read.ensures.returned _ w.2;
            undamaged = λ honest. tt;
            causes = λ none. tt;
            work_always = omega arith;
          };
      work = (let more = read.ensures.work in omega arith);
      reader = search rules;
    }

pub returns-in_err-stamped-in-Some-clause-answer : goal.returns-in_err-stamped-in-Some-clause-answer
returns-in_err-stamped-in-Some-clause-answer g c =
    let lists = (g.R.RowReader.view c.args.reader.now).lists in
    let read = c.in_err-stamped-in-Some in record {
      rows = λ listed_so.
          let w = c.in-Some.ensures.found lists listed_so in
          let more = read.ensures.work_always w.0 w.1 in
          let cost = ap (λ o. sum_by g.R.RowReader.cost (option_to_list o)) w.2 in
          record {
            each = search rules;
            undamaged = λ honest. (let other = read.ensures.undamaged honest w.0 w.1 in search rules);
            causes = λ none. absurd (wanted_row w.0.row _ w.2 none);
            work_always = omega arith;
          };
      work = search rules;
      reader = fails_on _ _ _ _ _ c.from_residual.ensures.1 (not_read _) read.ensures.reader;
    }
