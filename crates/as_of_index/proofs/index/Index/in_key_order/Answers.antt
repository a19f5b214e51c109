use Rattle.std.proofs.Common.{Ok, ◌≡◌, ◌-◌, [], ◌∷◌, ◌++◌, length, sym, ap, subst, ◌∙◌, arith, rules}
use Rattle.std.specs.List.{sum_by, AllZip}
use Rattle.std.proofs.lemmas.List.{length_push}
use Rattle.std.proofs.lemmas.List.Sums.{sum_by_push}
use Rattle.std.proofs.lemmas.Slice.Zip.{AllZip-long}
use Rattle.as_of_index.specs.Reader.{IsReadFor}
use Rattle.history_model.specs.Lists.{listed}
use Rattle.segment.specs.Standing.{StandsAt}
use Rattle.as_of_index.specs.Private.KeyOrder.{rows_of_imports, in_key_order}
use Rattle.as_of_index.proofs.Standing.{are_lists}
use Rattle.as_of_index.proofs.Returned.{reads_more}
use Rattle.as_of_index.proofs.KeyOrder.{row_next, fewer_after, after_more, after_cost, after_hidden, after_done, after_full}
use Rattle.as_of_index.proofs.Reading.{not_read, reads_on, has_read, read_so, fails_on, row_wanted}
use Rattle.as_of_index.proofs.index.Index.in_key_order.Goals as goal
use Rattle.as_of_index.proofs.index.Index.in_key_order.Goals.{then-is_of_imports+in_ok-found-in-Some+in_ok-push-in-Some, else-is_of_imports}

pub loop-self-init : goal.loop-self-init
loop-self-init g c =
    let a = c.args in
    let shown = rows_of_imports a.first a.last (listed (g.R.RowReader.view a.reader.now).lists) in
    let none : length c.new-rows.result.items ≡ 0 = ap length c.new-rows.ensures.items in
    let whole : a.limit - 0 ≡ a.limit = omega arith in
    let first = ap (λ n. in_key_order a.kind a.after n shown) whole in
    let left : a.limit - length c.new-rows.result.items ≡ a.limit = ap (λ n. a.limit - n) none ∙ whole in
    let same = ap (λ n. in_key_order a.kind a.after n shown) left in
    let sum = ap (sum_by g.R.RowReader.cost) same in
    record {
      within = omega arith;
      reader = not_read _;
      work = omega arith;
      work_always = λ listed_so. omega (arith, sum);
      stays = g.met.R.RowReader.stays_still a.reader.now;
      each = λ listed_so. ([], rw c.new-rows.ensures.items tt, first);
    }

pub loop-self-smaller : goal.loop-self-smaller
loop-self-smaller g c =
    rw c.key_at-key.ensures (fewer_after c.args.kind c.loop-self.latest _ (c.in-Some.segment, c.in-Some.at) (rw (c.as_slice.ensures.value, c.self.view_is) at c.in-Some.ensures))

pub loop-self-preserved : goal.loop-self-preserved
loop-self-preserved g c =
    let a = c.args in
    let so_far = c.loop-self.invariant in
    let lists = (g.R.RowReader.view a.reader.now).lists in
    elim c.if-is_of_imports.branch [
      | then-is_of_imports+in_ok-found-in-Some+in_ok-push-in-Some w ↦ rw (w.reader-is, w.rows-is, c.key_at-key.ensures) (record {
        within = (let e = length_push c.loop-self.rows.items w.in_ok-found-in-Some.found.row in rw w.in_ok-push-in-Some.ensures.items (omega arith));
        reader = reads_on (Ok 0) _ _ _ so_far.reader (has_read _ _ _ w.in_ok-found-in-Some.ensures.reader);
        work = (let least = so_far.work in let more = w.in_ok-found-in-Some.ensures.work in rw (w.in_ok-push-in-Some.ensures.items, sum_by_push g.R.RowReader.cost c.loop-self.rows.items w.in_ok-found-in-Some.found.row) (omega arith));
        work_always = λ listed_so.
            let are = are_lists lists (rw (c.self.view_is, listed_so) at c.self.invariant.places) in
            let next = rw (c.as_slice.ensures.value, c.self.view_is, listed_so) at c.in-Some.ensures in
            let r = row_next a.first a.last lists are a.kind c.loop-self.latest (c.in-Some.segment, c.in-Some.at) next in
            let stands = subst (λ ls. StandsAt ls c.in-Some.segment c.in-Some.at r.0) (sym (so_far.reader.lists)) r.1 in
            let least = so_far.work_always listed_so in
            let more = w.in_ok-found-in-Some.ensures.work_always r.0 stands in
            let sum = after_cost a.first a.last lists are a.kind g.R.RowReader.cost c.loop-self.latest (c.in-Some.segment, c.in-Some.at) r.0 a.limit c.loop-self.rows.items w.in_ok-found-in-Some.found.row (omega arith) next r.2 r.3 r.4 (sym c.is_of_imports.ensures ∙ w.if-is_of_imports.true) in
            rw w.in_ok-push-in-Some.ensures.items (omega arith);
        stays = g.met.R.RowReader.stays_on a.reader.now _ _ so_far.stays w.in_ok-found-in-Some.ensures.stays;
        each = λ listed_so.
            let are = are_lists lists (rw (c.self.view_is, listed_so) at c.self.invariant.places) in
            let next = rw (c.as_slice.ensures.value, c.self.view_is, listed_so) at c.in-Some.ensures in
            let r = row_next a.first a.last lists are a.kind c.loop-self.latest (c.in-Some.segment, c.in-Some.at) next in
            let k = so_far.each listed_so in
            let count = AllZip-long _ _ _ k.1 in (
              k.0 ++ r.0.row ∷ [],
              rw w.in_ok-push-in-Some.ensures.items (reads_more so_far.reader r.1 w.in_ok-found-in-Some.ensures.returned c.loop-self.rows.items k.0 k.1),
              after_more a.first a.last lists are a.kind c.loop-self.latest (c.in-Some.segment, c.in-Some.at) r.0 a.limit k.0 _ (omega arith) next r.2 r.3 r.4 (sym c.is_of_imports.ensures ∙ w.if-is_of_imports.true) k.2,
            );
      })
      | else-is_of_imports w ↦ rw (w.reader-is, w.rows-is, c.key_at-key.ensures) (record {
        within = so_far.within;
        reader = so_far.reader;
        work = so_far.work;
        work_always = λ listed_so.
            let are = are_lists lists (rw (c.self.view_is, listed_so) at c.self.invariant.places) in
            let next = rw (c.as_slice.ensures.value, c.self.view_is, listed_so) at c.in-Some.ensures in
            let r = row_next a.first a.last lists are a.kind c.loop-self.latest (c.in-Some.segment, c.in-Some.at) next in
            let same = after_hidden a.first a.last lists are a.kind c.loop-self.latest (c.in-Some.segment, c.in-Some.at) r.0 (a.limit - length c.loop-self.rows.items) next r.2 r.3 r.4 (sym c.is_of_imports.ensures ∙ w.if-is_of_imports.false) in
            let sum = ap (sum_by g.R.RowReader.cost) same in
            let least = so_far.work_always listed_so in
            omega arith;
        stays = so_far.stays;
        each = λ listed_so.
            let are = are_lists lists (rw (c.self.view_is, listed_so) at c.self.invariant.places) in
            let next = rw (c.as_slice.ensures.value, c.self.view_is, listed_so) at c.in-Some.ensures in
            let r = row_next a.first a.last lists are a.kind c.loop-self.latest (c.in-Some.segment, c.in-Some.at) next in
            let k = so_far.each listed_so in
            (k.0, k.1, ap (λ ys. k.0 ++ ys) (sym (after_hidden a.first a.last lists are a.kind c.loop-self.latest (c.in-Some.segment, c.in-Some.at) r.0 (a.limit - length k.0) next r.2 r.3 r.4 (sym c.is_of_imports.ensures ∙ w.if-is_of_imports.false))) ∙ k.2);
      })
    ]

pub returns-in_err-found-in-Some-clause-answer : goal.returns-in_err-found-in-Some-clause-answer
returns-in_err-found-in-Some-clause-answer g c =
    let a = c.args in
    let so_far = c.loop-self.invariant in
    let lists = (g.R.RowReader.view a.reader.now).lists in
    record {
      rows = λ listed_so.
          let are = are_lists lists (rw (c.self.view_is, listed_so) at c.self.invariant.places) in
          let next = rw (c.as_slice.ensures.value, c.self.view_is, listed_so) at c.in-Some.ensures in
          let w = row_next a.first a.last lists are a.kind c.loop-self.latest (c.in-Some.segment, c.in-Some.at) next in
          let stands = subst (λ ls. StandsAt ls c.in-Some.segment c.in-Some.at w.0) (sym so_far.reader.lists) w.1 in
          let least = so_far.work_always listed_so in
          let more = c.in_err-found-in-Some.ensures.work_always w.0 stands in
          let sum = after_cost a.first a.last lists are a.kind g.R.RowReader.cost c.loop-self.latest (c.in-Some.segment, c.in-Some.at) w.0 a.limit c.loop-self.rows.items w.0.row (omega arith) next w.2 w.3 w.4 (sym c.is_of_imports.ensures ∙ c.if-is_of_imports.true) in
          record {
            each = search rules;
            undamaged = λ honest. (let other = c.in_err-found-in-Some.ensures.undamaged (so_far.reader.honesty honest) w.0 stands in search rules);
            causes = λ none.
                let k = so_far.each listed_so in
                let count = AllZip-long _ _ _ k.1 in
                absurd (row_wanted k.0 _ _ w.0.row (after_more a.first a.last lists are a.kind c.loop-self.latest (c.in-Some.segment, c.in-Some.at) w.0 a.limit k.0 _ (omega arith) next w.2 w.3 w.4 (sym c.is_of_imports.ensures ∙ c.if-is_of_imports.true) k.2) none);
            work_always = omega arith;
          };
      work = search rules;
      reader = fails_on _ _ _ _ _ c.from_residual-in_err-found-in-Some.ensures.1 so_far.reader c.in_err-found-in-Some.ensures.reader;
    }

pub returns-in_err-push-in-Some-clause-answer : goal.returns-in_err-push-in-Some-clause-answer
returns-in_err-push-in-Some-clause-answer g c =
    let a = c.args in
    let so_far = c.loop-self.invariant in
    let lists = (g.R.RowReader.view a.reader.now).lists in
    record {
      rows = λ listed_so.
          let are = are_lists lists (rw (c.self.view_is, listed_so) at c.self.invariant.places) in
          let next = rw (c.as_slice.ensures.value, c.self.view_is, listed_so) at c.in-Some.ensures in
          let w = row_next a.first a.last lists are a.kind c.loop-self.latest (c.in-Some.segment, c.in-Some.at) next in
          let stands = subst (λ ls. StandsAt ls c.in-Some.segment c.in-Some.at w.0) (sym so_far.reader.lists) w.1 in
          let least = so_far.work_always listed_so in
          let more = c.in_ok-found-in-Some.ensures.work_always w.0 stands in
          let sum = after_cost a.first a.last lists are a.kind g.R.RowReader.cost c.loop-self.latest (c.in-Some.segment, c.in-Some.at) w.0 a.limit c.loop-self.rows.items w.0.row (omega arith) next w.2 w.3 w.4 (sym c.is_of_imports.ensures ∙ c.if-is_of_imports.true) in
          record {
            each = search rules;
            undamaged = λ honest. search rules;
            causes = λ none. search rules;
            work_always = omega arith;
          };
      work = search rules;
      reader = search rules;
    }

pub returns-in-None-clause-answer : goal.returns-in-None-clause-answer
returns-in-None-clause-answer g c =
    let a = c.args in
    let so_far = c.loop-self.invariant in
    let lists = (g.R.RowReader.view a.reader.now).lists in
    record {
      rows = λ listed_so.
          let are = are_lists lists (rw (c.self.view_is, listed_so) at c.self.invariant.places) in
          let k = so_far.each listed_so in
          let least = so_far.work_always listed_so in
          let none = rw (c.as_slice.ensures.value, c.self.view_is, listed_so) at c.in-None.ensures in
          record {
            each = subst (λ xs. AllZip (IsReadFor (g.R.RowReader.view a.reader.now)) c.loop-self.rows.items xs) (after_done a.first a.last lists are a.kind c.loop-self.latest _ k.0 _ none k.2) k.1;
            undamaged = λ honest. tt;
            causes = λ none. tt;
            work_always = omega arith;
          };
      work = so_far.work;
      reader = read_so _ _ _ so_far.reader;
    }

pub returns-clause-answer : goal.returns-clause-answer
returns-clause-answer g c =
    let a = c.args in
    let so_far = c.loop-self.invariant in
    let lists = (g.R.RowReader.view a.reader.now).lists in
    record {
      rows = λ listed_so.
          let are = are_lists lists (rw (c.self.view_is, listed_so) at c.self.invariant.places) in
          let k = so_far.each listed_so in
          let least = so_far.work_always listed_so in
          let count = AllZip-long _ _ _ k.1 in
          record {
            each = subst (λ xs. AllZip (IsReadFor (g.R.RowReader.view a.reader.now)) c.loop-self.rows.items xs) (after_full a.first a.last lists are a.kind c.loop-self.latest a.limit k.0 _ (omega arith) k.2) k.1;
            undamaged = λ honest. tt;
            causes = λ none. tt;
            work_always = omega arith;
          };
      work = so_far.work;
      reader = read_so _ _ _ so_far.reader;
    }
