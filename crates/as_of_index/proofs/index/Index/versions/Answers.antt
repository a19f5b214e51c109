use Rattle.std.specs.Prelude.{nat_le}
use Rattle.std.specs.List.{sum_by, AllZip}
use Rattle.std.proofs.lemmas.Bool.Decides.{nat_tests}
use Rattle.std.proofs.lemmas.List.Sums.{sum_by_push}
use Rattle.std.proofs.Common.{Ok, ◌≡◌, ℕ, ◌<◌, ◌≤◌, true, false, [], ◌∷◌, ◌++◌, refl, sym, ap, subst, arith, rules}
use Rattle.history_model.specs.History.{rows_at}
use Rattle.history_model.specs.Lists.{listed}
use Rattle.history_model.proofs.Snapshots.{versions-above_none}
use Rattle.segment.specs.Standing.{StandsAt}
use Rattle.as_of_index.proofs.Standing.{are_lists}
use Rattle.as_of_index.proofs.Later.{version_row, versions_push, versions_skip, versions_end, versions_cost, fewer_versions}
use Rattle.as_of_index.specs.Reader.{IsReadFor}
use Rattle.as_of_index.proofs.Returned.{reads_more}
use Rattle.as_of_index.proofs.Reading.{not_read, reads_on, has_read, read_so, fails_on, row_wanted}
use Rattle.as_of_index.proofs.index.Index.versions.Goals as goal
use Rattle.as_of_index.proofs.index.Index.versions.Goals.{then-is_shown+in_ok-version+in_ok-push, else-is_shown}

beyond : (m n : ℕ) → (m ≤ n → ⊥) → n < m
beyond m n apart = elim (nat_le m n) as (λ t. nat_le m n ≡ t → n < m) [ true ↦ λ e. absurd (apart (grind (arith, nat_tests, e))) | false ↦ λ e. grind (arith, nat_tests, e) ] refl

pub loop-segment-init : goal.loop-segment-init
loop-segment-init g c = record {
  reader = not_read _;
  work = rw c.new-rows.ensures.items (omega arith);
  work_always = λ listed_so. (let all = ap (sum_by g.R.RowReader.cost) (versions-above_none c.args.kind c.args.id (rows_at c.args.pin (listed (g.R.RowReader.view c.args.reader.now).lists))) in omega arith);
  stays = g.met.R.RowReader.stays_still c.args.reader.now;
  each = λ listed_so. ([], rw c.new-rows.ensures.items tt, sym (versions-above_none c.args.kind c.args.id (rows_at c.args.pin (listed (g.R.RowReader.view c.args.reader.now).lists))));
}

pub loop-segment-smaller : goal.loop-segment-smaller
loop-segment-smaller g c =
    rw c.time_of-time.ensures (fewer_versions c.args.kind c.args.id c.loop-segment.after _ (c.in-Some.segment, c.in-Some.at) (rw (c.as_slice.ensures.value, c.self.view_is) at c.in-Some.ensures))

pub loop-segment-preserved : goal.loop-segment-preserved
loop-segment-preserved g c =
    let a = c.args in
    let so_far = c.loop-segment.invariant in
    let lists = (g.R.RowReader.view a.reader.now).lists in
    elim c.if-is_shown.branch [
      | then-is_shown+in_ok-version+in_ok-push w ↦ rw (w.reader-is, w.rows-is, c.time_of-time.ensures) (record {
        reader = reads_on (Ok 0) _ _ _ so_far.reader (has_read _ _ _ w.in_ok-version.ensures.reader);
        work = (let least = so_far.work in let more = w.in_ok-version.ensures.work in rw (w.in_ok-push.ensures.items, sum_by_push g.R.RowReader.cost c.loop-segment.rows.items w.in_ok-version.version.row) (omega arith));
        work_always = λ listed_so.
            let are = are_lists lists (rw (c.self.view_is, listed_so) at c.self.invariant.places) in
            let next = rw (c.as_slice.ensures.value, c.self.view_is, listed_so) at c.in-Some.ensures in
            let r = version_row a.kind a.id a.pin lists are c.loop-segment.after (c.in-Some.segment, c.in-Some.at) next in
            let stands = subst (λ ls. StandsAt ls c.in-Some.segment c.in-Some.at r.0) (sym (so_far.reader.lists)) r.1 in
            let least = so_far.work_always listed_so in
            let more = w.in_ok-version.ensures.work_always r.0 stands in
            let sum = versions_cost a.kind a.id a.pin lists are g.R.RowReader.cost c.loop-segment.after (c.in-Some.segment, c.in-Some.at) r.0 next r.1 (c.is_shown.ensures.0 w.if-is_shown.true) in
            omega arith;
        stays = g.met.R.RowReader.stays_on a.reader.now _ _ so_far.stays w.in_ok-version.ensures.stays;
        each = λ listed_so.
            let are = are_lists lists (rw (c.self.view_is, listed_so) at c.self.invariant.places) in
            let next = rw (c.as_slice.ensures.value, c.self.view_is, listed_so) at c.in-Some.ensures in
            let r = version_row a.kind a.id a.pin lists are c.loop-segment.after (c.in-Some.segment, c.in-Some.at) next in
            let k = so_far.each listed_so in (
              k.0 ++ r.0.row ∷ [],
              rw w.in_ok-push.ensures.items (reads_more so_far.reader r.1 w.in_ok-version.ensures.returned c.loop-segment.rows.items k.0 k.1),
              versions_push a.kind a.id a.pin lists are c.loop-segment.after (c.in-Some.segment, c.in-Some.at) k.0 _ r.0 next r.1 (c.is_shown.ensures.0 w.if-is_shown.true) k.2,
            );
      })
      | else-is_shown w ↦ rw (w.reader-is, w.rows-is, c.time_of-time.ensures) (record {
        reader = so_far.reader;
        work = so_far.work;
        work_always = λ listed_so.
            let are = are_lists lists (rw (c.self.view_is, listed_so) at c.self.invariant.places) in
            let next = rw (c.as_slice.ensures.value, c.self.view_is, listed_so) at c.in-Some.ensures in
            let same = versions_skip a.kind a.id a.pin lists are c.loop-segment.after (c.in-Some.segment, c.in-Some.at) [] _ next (beyond c.in-Some.at.import a.pin (λ le. let yes = c.is_shown.ensures.1 le in let no_yes = w.if-is_shown.false in absurd (cc))) refl in
            let sum = ap (sum_by g.R.RowReader.cost) same in
            let least = so_far.work_always listed_so in
            omega arith;
        stays = so_far.stays;
        each = λ listed_so.
            let are = are_lists lists (rw (c.self.view_is, listed_so) at c.self.invariant.places) in
            let next = rw (c.as_slice.ensures.value, c.self.view_is, listed_so) at c.in-Some.ensures in
            let k = so_far.each listed_so in
            (k.0, k.1, versions_skip a.kind a.id a.pin lists are c.loop-segment.after (c.in-Some.segment, c.in-Some.at) k.0 _ next (beyond c.in-Some.at.import a.pin (λ le. let yes = c.is_shown.ensures.1 le in let no_yes = w.if-is_shown.false in absurd (cc))) k.2);
      })
    ]

pub returns-in_err-version-clause-answer : goal.returns-in_err-version-clause-answer
returns-in_err-version-clause-answer g c =
    let a = c.args in
    let so_far = c.loop-segment.invariant in
    let lists = (g.R.RowReader.view a.reader.now).lists in
    record {
      rows = λ listed_so.
          let are = are_lists lists (rw (c.self.view_is, listed_so) at c.self.invariant.places) in
          let next = rw (c.as_slice.ensures.value, c.self.view_is, listed_so) at c.in-Some.ensures in
          let r = version_row a.kind a.id a.pin lists are c.loop-segment.after (c.in-Some.segment, c.in-Some.at) next in
          let stands = subst (λ ls. StandsAt ls c.in-Some.segment c.in-Some.at r.0) (sym so_far.reader.lists) r.1 in
          let least = so_far.work_always listed_so in
          let more = c.in_err-version.ensures.work_always r.0 stands in
          let sum = versions_cost a.kind a.id a.pin lists are g.R.RowReader.cost c.loop-segment.after (c.in-Some.segment, c.in-Some.at) r.0 next r.1 (c.is_shown.ensures.0 c.if-is_shown.true) in
          record {
            each = search rules;
            undamaged = λ honest. (let other = c.in_err-version.ensures.undamaged (so_far.reader.honesty honest) r.0 stands in search rules);
            causes = λ none.
                let k = so_far.each listed_so in
                absurd (row_wanted k.0 _ _ r.0.row (versions_push a.kind a.id a.pin lists are c.loop-segment.after (c.in-Some.segment, c.in-Some.at) k.0 _ r.0 next r.1 (c.is_shown.ensures.0 c.if-is_shown.true) k.2) none);
            work_always = omega arith;
          };
      work = search rules;
      reader = fails_on _ _ _ _ _ c.from_residual.ensures.1 so_far.reader c.in_err-version.ensures.reader;
    }

pub returns-in_err-push-clause-answer : goal.returns-in_err-push-clause-answer
returns-in_err-push-clause-answer g c =
    let a = c.args in
    let so_far = c.loop-segment.invariant in
    let lists = (g.R.RowReader.view a.reader.now).lists in
    record {
      rows = λ listed_so.
          let are = are_lists lists (rw (c.self.view_is, listed_so) at c.self.invariant.places) in
          let next = rw (c.as_slice.ensures.value, c.self.view_is, listed_so) at c.in-Some.ensures in
          let r = version_row a.kind a.id a.pin lists are c.loop-segment.after (c.in-Some.segment, c.in-Some.at) next in
          let stands = subst (λ ls. StandsAt ls c.in-Some.segment c.in-Some.at r.0) (sym so_far.reader.lists) r.1 in
          let least = so_far.work_always listed_so in
          let more = c.in_ok-version.ensures.work_always r.0 stands in
          let sum = versions_cost a.kind a.id a.pin lists are g.R.RowReader.cost c.loop-segment.after (c.in-Some.segment, c.in-Some.at) r.0 next r.1 (c.is_shown.ensures.0 c.if-is_shown.true) in
          record {
            each = search rules;
            undamaged = λ honest. search rules;
            causes = λ none. search rules;
            work_always = omega arith;
          };
      work = search rules;
      reader = search rules;
    }

pub returns-clause-answer : goal.returns-clause-answer
returns-clause-answer g c =
    let a = c.args in
    let so_far = c.loop-segment.invariant in
    let lists = (g.R.RowReader.view a.reader.now).lists in
    record {
      rows = λ listed_so.
          let are = are_lists lists (rw (c.self.view_is, listed_so) at c.self.invariant.places) in
          let last = rw (c.as_slice.ensures.value, c.self.view_is, listed_so) at c.in_default.ensures in
          let k = so_far.each listed_so in
          let least = so_far.work_always listed_so in
          record {
            each = subst (λ xs. AllZip (IsReadFor (g.R.RowReader.view a.reader.now)) c.loop-segment.rows.items xs) (versions_end a.kind a.id a.pin lists are c.loop-segment.after k.0 _ last k.2) k.1;
            undamaged = λ honest. tt;
            causes = λ none. tt;
            work_always = omega arith;
          };
      work = so_far.work;
      reader = read_so _ _ _ so_far.reader;
    }
