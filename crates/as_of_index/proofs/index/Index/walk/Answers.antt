use Rattle.std.proofs.Common.{Ok, ◌≡◌, ◌-◌, [], ◌∷◌, ◌++◌, refl, Some, None, length, sym, ap, subst, ◌∙◌, arith, rules}
use Rattle.std.proofs.lemmas.List.{length_push}
use Rattle.std.specs.List.{sum_by, AllZip}
use Rattle.std.proofs.lemmas.List.Sums.{sum_by_push}
use Rattle.segment.specs.Standing.{StandsAt}
use Rattle.as_of_index.specs.declared.search.Start.TheVariants.{Components}
use Rattle.as_of_index.specs.Private.Search.{changed_parts, ArePassed}
use Rattle.as_of_index.specs.Private.Walk.{walked}
use Rattle.as_of_index.proofs.Standing.{are_lists, change_from_pick}
use Rattle.as_of_index.proofs.Walking.{id_above, versions_ahead, others_ahead}
use Rattle.as_of_index.proofs.Paging.{walk_more, walk_cost, walk_same, walk_done, walk_full, fewer_left}
use Rattle.std.proofs.lemmas.Slice.Zip.{AllZip-long}
use Rattle.as_of_index.specs.Reader.{IsReadFor}
use Rattle.as_of_index.proofs.Returned.{reads_more}
use Rattle.as_of_index.proofs.Reading.{not_read, reads_on, has_read, read_so, fails_on, row_wanted}
use Rattle.as_of_index.proofs.index.Index.walk.Goals as goal
use Rattle.as_of_index.specs.Current.{rows_seen}

pub latest_on-requires : goal.latest_on-requires
latest_on-requires g c =
    let a = c.args in
    let above = id_above a.kind c.loop-lists.last a.from a.as_of.now _ c.in-Some.id c.in-Some.ensures.next in
    let ahead = versions_ahead a.kind c.in-Some.id (changed_parts a.from a.as_of.now c.as_slice-lists.result.now) c.next_id.new.cursors.items c.loop-lists.last above c.in-Some.ensures.passed in
    rw c.deref.ensures.value ahead

pub loop-lists-smaller-in_ok-push-in-Some : goal.loop-lists-smaller-in_ok-push-in-Some
loop-lists-smaller-in_ok-push-in-Some g c = fewer_left c.args.kind c.loop-lists.last c.args.from c.args.as_of.now c.in-Some.id _ (rw (c.as_slice-lists.ensures.value, c.self.view_is) at c.in-Some.ensures.next)

pub loop-lists-smaller : goal.loop-lists-smaller
loop-lists-smaller g c = fewer_left c.args.kind c.loop-lists.last c.args.from c.args.as_of.now c.in-Some.id _ (rw (c.as_slice-lists.ensures.value, c.self.view_is) at c.in-Some.ensures.next)

pub loop-lists-preserved-in_ok-push-in-Some : goal.loop-lists-preserved-in_ok-push-in-Some
loop-lists-preserved-in_ok-push-in-Some g c =
    let a = c.args in
    let above = id_above a.kind c.loop-lists.last a.from a.as_of.now _ c.in-Some.id c.in-Some.ensures.next in
    let passed : ArePassed (Components a.kind c.loop-lists.last) (changed_parts a.from a.as_of.now c.args.self.now) c.next_id.new.cursors.items = rw (c.as_slice-lists.ensures.value, c.self.view_is) at c.in-Some.ensures.passed in
    let ahead = others_ahead a.kind c.in-Some.id (changed_parts a.from a.as_of.now c.args.self.now) c.next_id.new.cursors.items c.loop-lists.last above passed in
    let so_far = c.loop-lists.invariant in
    let found = c.in_ok-found-in-Some in
    record {
      passed = ahead;
      within = (let e = length_push c.loop-lists.rows.items found.found.row in rw c.in_ok-push-in-Some.ensures.items (omega arith));
      reader = reads_on (Ok 0) _ _ _ so_far.reader (has_read _ _ _ found.ensures.reader);
      work = (let least = so_far.work in let more = found.ensures.work in rw (c.in_ok-push-in-Some.ensures.items, sum_by_push g.R.RowReader.cost c.loop-lists.rows.items found.found.row) (omega arith));
      work_always = λ listed_so.
          let f = g.R.RowReader.cost in
          let w = change_from_pick c.args.kind c.in-Some.id c.args.from c.args.as_of.now (g.R.RowReader.view c.args.reader.now).lists (are_lists (g.R.RowReader.view c.args.reader.now).lists (rw (c.self.view_is, listed_so) at c.self.invariant.places)) (Some (c.in-Some-latest_on.segment, c.in-Some-latest_on.at)) (rw (c.as_slice-lists.ensures.value, c.self.view_is, listed_so) at c.in-Some-latest_on.ensures) in
          let stands = subst (λ ls. StandsAt ls c.in-Some-latest_on.segment c.in-Some-latest_on.at w.0) (sym (so_far.reader.lists)) w.1 in
          let least = so_far.work_always listed_so in
          let more = found.ensures.work_always w.0 stands in
          let sum = walk_cost a.kind a.from a.as_of.now (g.R.RowReader.view a.reader.now).lists f c.loop-lists.last c.in-Some.id a.limit c.loop-lists.rows.items w.0.row found.found.row (omega arith) (rw (c.as_slice-lists.ensures.value, c.self.view_is, listed_so) at c.in-Some.ensures.next) w.2 w.3 in
          rw c.in_ok-push-in-Some.ensures.items (omega arith);
      stays = g.met.R.RowReader.stays_on c.args.reader.now _ _ so_far.stays found.ensures.stays;
      each = λ listed_so.
          let lists = (g.R.RowReader.view a.reader.now).lists in
          let w = change_from_pick a.kind c.in-Some.id a.from a.as_of.now lists (are_lists lists (rw (c.self.view_is, listed_so) at c.self.invariant.places)) (Some (c.in-Some-latest_on.segment, c.in-Some-latest_on.at)) (rw (c.as_slice-lists.ensures.value, c.self.view_is, listed_so) at c.in-Some-latest_on.ensures) in
          let k = so_far.each listed_so in
          let count = AllZip-long _ _ _ k.1 in (
            k.0 ++ w.0.row ∷ [],
            rw c.in_ok-push-in-Some.ensures.items (reads_more so_far.reader w.1 found.ensures.returned c.loop-lists.rows.items k.0 k.1),
            walk_more a.kind a.from a.as_of.now lists c.loop-lists.last c.in-Some.id a.limit k.0 _ w.0.row (omega arith)
                (rw (c.as_slice-lists.ensures.value, c.self.view_is, listed_so) at c.in-Some.ensures.next) w.2 w.3 k.2,
          );
    }

pub loop-lists-preserved : goal.loop-lists-preserved
loop-lists-preserved g c =
    let a = c.args in
    let above = id_above a.kind c.loop-lists.last a.from a.as_of.now _ c.in-Some.id c.in-Some.ensures.next in
    let passed : ArePassed (Components a.kind c.loop-lists.last) (changed_parts a.from a.as_of.now c.args.self.now) c.next_id.new.cursors.items = rw (c.as_slice-lists.ensures.value, c.self.view_is) at c.in-Some.ensures.passed in
    let ahead = others_ahead a.kind c.in-Some.id (changed_parts a.from a.as_of.now c.args.self.now) c.next_id.new.cursors.items c.loop-lists.last above passed in
    let so_far = c.loop-lists.invariant in
    record {
      passed = ahead;
      within = so_far.within;
      reader = so_far.reader;
      work = so_far.work;
      work_always = λ listed_so.
          let same = walk_same a.kind a.from a.as_of.now (g.R.RowReader.view a.reader.now).lists c.loop-lists.last c.in-Some.id (a.limit - length c.loop-lists.rows.items) [] _
          (rw (c.as_slice-lists.ensures.value, c.self.view_is, listed_so) at c.in-Some.ensures.next) (change_from_pick c.args.kind c.in-Some.id c.args.from c.args.as_of.now (g.R.RowReader.view c.args.reader.now).lists (are_lists (g.R.RowReader.view c.args.reader.now).lists (rw (c.self.view_is, listed_so) at c.self.invariant.places)) None (rw (c.as_slice-lists.ensures.value, c.self.view_is, listed_so) at (rw c.in_default.is at c.latest_on.ensures))) refl in
          let sum = ap (sum_by g.R.RowReader.cost) same in
          let least = so_far.work_always listed_so in
          omega arith;
      stays = so_far.stays;
      each = λ listed_so.
          let k = so_far.each listed_so in (
            k.0,
            k.1,
            walk_same a.kind a.from a.as_of.now (g.R.RowReader.view a.reader.now).lists c.loop-lists.last c.in-Some.id (a.limit - length k.0) k.0 _
                (rw (c.as_slice-lists.ensures.value, c.self.view_is, listed_so) at c.in-Some.ensures.next) (change_from_pick c.args.kind c.in-Some.id c.args.from c.args.as_of.now (g.R.RowReader.view c.args.reader.now).lists (are_lists (g.R.RowReader.view c.args.reader.now).lists (rw (c.self.view_is, listed_so) at c.self.invariant.places)) None (rw (c.as_slice-lists.ensures.value, c.self.view_is, listed_so) at (rw c.in_default.is at c.latest_on.ensures))) k.2,
          );
    }

pub loop-lists-init : goal.loop-lists-init
loop-lists-init g c =
    let a = c.args in
    let f = g.R.RowReader.cost in
    let shown = rows_seen a.as_of.now (g.R.RowReader.view a.reader.now).lists in
    let none : length c.new-rows.result.items ≡ 0 = ap length c.new-rows.ensures.items in
    let whole : a.limit - 0 ≡ a.limit = omega arith in
    let first = ap (λ n. walked a.kind a.from a.as_of.now.date a.after n shown) whole in
    let left : a.limit - length c.new-rows.result.items ≡ a.limit = ap (λ n. a.limit - n) none ∙ whole in
    let same = ap (λ n. walked a.kind a.from a.as_of.now.date a.after n shown) left in
    let sum = ap (sum_by f) same in
    record {
      passed = rw (c.as_slice-lists.ensures.value, c.self.view_is) at c.in_ok-cursors.ensures;
      within = omega arith;
      reader = not_read _;
      work = omega arith;
      work_always = λ listed_so. omega (arith, sum);
      stays = g.met.R.RowReader.stays_still a.reader.now;
      each = λ listed_so. ([], rw c.new-rows.ensures.items tt, first);
    }

pub returns-in_err-found-in-Some-clause-answer : goal.returns-in_err-found-in-Some-clause-answer
returns-in_err-found-in-Some-clause-answer g c =
    let a = c.args in
    let so_far = c.loop-lists.invariant in
    let lists = (g.R.RowReader.view a.reader.now).lists in
    record {
      rows = λ listed_so.
          let picked = c.in-Some-latest_on in
          let are = are_lists lists (rw (c.self.view_is, listed_so) at c.self.invariant.places) in
          let next = rw (c.as_slice-lists.ensures.value, c.self.view_is, listed_so) at c.in-Some.ensures.next in
          let w = change_from_pick a.kind c.in-Some.id a.from a.as_of.now lists are (Some (picked.segment, picked.at)) (rw (c.as_slice-lists.ensures.value, c.self.view_is, listed_so) at picked.ensures) in
          let stands = subst (λ ls. StandsAt ls picked.segment picked.at w.0) (sym so_far.reader.lists) w.1 in
          let least = so_far.work_always listed_so in
          let more = c.in_err-found-in-Some.ensures.work_always w.0 stands in
          let sum = walk_cost a.kind a.from a.as_of.now lists g.R.RowReader.cost c.loop-lists.last c.in-Some.id a.limit c.loop-lists.rows.items w.0.row w.0.row (omega arith) next w.2 w.3 in
          record {
            each = search rules;
            undamaged = λ honest. (let other = c.in_err-found-in-Some.ensures.undamaged (so_far.reader.honesty honest) w.0 stands in search rules);
            causes = λ none.
                let k = so_far.each listed_so in
                let count = AllZip-long _ _ _ k.1 in
                absurd (row_wanted k.0 _ _ w.0.row (walk_more a.kind a.from a.as_of.now lists c.loop-lists.last c.in-Some.id a.limit k.0 _ w.0.row (omega arith) next w.2 w.3 k.2) none);
            work_always = omega arith;
          };
      work = search rules;
      reader = fails_on _ _ _ _ _ c.from_residual-in_err-found-in-Some.ensures.1 so_far.reader c.in_err-found-in-Some.ensures.reader;
    }

pub returns-in_err-push-in-Some-clause-answer : goal.returns-in_err-push-in-Some-clause-answer
returns-in_err-push-in-Some-clause-answer g c =
    let a = c.args in
    let so_far = c.loop-lists.invariant in
    let lists = (g.R.RowReader.view a.reader.now).lists in
    record {
      rows = λ listed_so.
          let picked = c.in-Some-latest_on in
          let are = are_lists lists (rw (c.self.view_is, listed_so) at c.self.invariant.places) in
          let next = rw (c.as_slice-lists.ensures.value, c.self.view_is, listed_so) at c.in-Some.ensures.next in
          let w = change_from_pick a.kind c.in-Some.id a.from a.as_of.now lists are (Some (picked.segment, picked.at)) (rw (c.as_slice-lists.ensures.value, c.self.view_is, listed_so) at picked.ensures) in
          let stands = subst (λ ls. StandsAt ls picked.segment picked.at w.0) (sym so_far.reader.lists) w.1 in
          let least = so_far.work_always listed_so in
          let more = c.in_ok-found-in-Some.ensures.work_always w.0 stands in
          let sum = walk_cost a.kind a.from a.as_of.now lists g.R.RowReader.cost c.loop-lists.last c.in-Some.id a.limit c.loop-lists.rows.items w.0.row w.0.row (omega arith) next w.2 w.3 in
          record {
            each = search rules;
            undamaged = λ honest. search rules;
            causes = λ none. search rules;
            work_always = omega arith;
          };
      work = search rules;
      reader = search rules;
    }

pub returns-in-None-clause-answer : goal.returns-in-None-clause-answer
returns-in-None-clause-answer g c =
    let a = c.args in
    let so_far = c.loop-lists.invariant in
    let lists = (g.R.RowReader.view a.reader.now).lists in
    record {
      rows = λ listed_so.
          let k = so_far.each listed_so in
          let least = so_far.work_always listed_so in
          let none = rw (c.as_slice-lists.ensures.value, c.self.view_is, listed_so) at c.in-None.ensures.next in
          record {
            each = subst (λ xs. AllZip (IsReadFor (g.R.RowReader.view a.reader.now)) c.loop-lists.rows.items xs) (walk_done a.kind a.from a.as_of.now lists c.loop-lists.last _ k.0 _ none k.2) k.1;
            undamaged = λ honest. tt;
            causes = λ none. tt;
            work_always = omega arith;
          };
      work = so_far.work;
      reader = read_so _ _ _ so_far.reader;
    }

pub returns-clause-answer : goal.returns-clause-answer
returns-clause-answer g c =
    let a = c.args in
    let so_far = c.loop-lists.invariant in
    let lists = (g.R.RowReader.view a.reader.now).lists in
    record {
      rows = λ listed_so.
          let k = so_far.each listed_so in
          let least = so_far.work_always listed_so in
          let count = AllZip-long _ _ _ k.1 in
          record {
            each = subst (λ xs. AllZip (IsReadFor (g.R.RowReader.view a.reader.now)) c.loop-lists.rows.items xs) (walk_full a.kind a.from a.as_of.now lists c.loop-lists.last a.limit k.0 _ (omega arith) k.2) k.1;
            undamaged = λ honest. tt;
            causes = λ none. tt;
            work_always = omega arith;
          };
      work = so_far.work;
      reader = read_so _ _ _ so_far.reader;
    }
