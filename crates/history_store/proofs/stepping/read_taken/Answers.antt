use Rattle.std.specs.List.{AllZip}
use Rattle.std.proofs.Common.{◌+◌, ◌++◌, [], ◌∷◌, List, take, sym, ap, subst, ◌∙◌, add-one, rules, arith}
use Rattle.std.proofs.lemmas.List.{take_more, take_all}
use Rattle.std.proofs.lemmas.Slice.Zip.{all_zipped_more as zip_push}
use Rattle.history_model.specs.declared.stamped.StampedRow.{StampedRow}
use Rattle.segment.specs.Standing.{StandsAt}
use Rattle.merge.specs.declared.Taken.{Taken}
use Rattle.blocks.specs.Cache.{AgreesWith}
use Rattle.blocks.proofs.Looked.{some_more}
use Rattle.disk_model.specs.Disk.{Moments}
use Rattle.history_store.specs.Queries.{is_listed}
use Rattle.history_store.specs.Private.Reading.{AreThere}
use Rattle.history_store.specs.Private.Stepping.{StandsIn, IsReadAt, cost_at}
use Rattle.history_store.proofs.ReadRows.{zip_at, zip_end, cost_push, cost_take}
use Rattle.history_store.proofs.stepping.read_taken.Goals as goal

pub loop-t-preserved : goal.loop-t-preserved
loop-t-preserved g c =
    let a = c.args in
    let l = c.loop-t in
    let so_far = l.invariant in
    let t = c.t-item.result in
    let row = c.in_ok-row.row in
    let read = c.in_ok-row.ensures in
    let items = c.in_ok-push.ensures.items in
    record {
      found = λ up agrees lists want there stand.
          let w = zip_at (StandsIn lists a.i a.j) a.taken.now want l.t-index t stand c.loop-t-test.true c.t-item.is in
          let stands = subst (λ n. StandsAt lists n t.place w.0) (sym c.segment_number-segment.ensures) w.1 in
          let agrees_still = subst (λ (m : Moments). AgreesWith l.cache m.state.now) (sym (so_far.moments up)) (so_far.agrees up agrees) in
          let same = read.found _ (g.met.D.Disk.honest_reads l.disk (so_far.honesty.0 up), agrees_still) lists w.0 (subst (λ (m : Moments). AreThere a.entries.now lists m.state.now) (sym (so_far.moments up)) there) stands in
          items ∙ ap (λ (xs : List StampedRow). xs ++ row ∷ []) (so_far.found up agrees lists want there stand) ∙ ap (λ (s : StampedRow). take l.t-index want ++ s ∷ []) same
          ∙ sym w.2 ∙ ap (λ k. take k want) (sym (add-one l.t-index));
      read =
          let more = take_more a.taken.now l.t-index t c.loop-t-test.true ∙ ap (λ (x : Taken). take l.t-index a.taken.now ++ x ∷ []) (sym c.t-item.is) in
          subst (λ (r : List StampedRow). AllZip IsReadAt (take (l.t-index + 1) a.taken.now) r) (sym items)
          (subst (λ (x : List Taken). AllZip IsReadAt x (l.rows.items ++ row ∷ [])) (sym more) (zip_push IsReadAt (take l.t-index a.taken.now) l.rows.items t row so_far.read read.of_place));
      agrees = λ up agrees.
          let agrees_still = subst (λ (m : Moments). AgreesWith l.cache m.state.now) (sym (so_far.moments up)) (so_far.agrees up agrees) in
          subst (λ (m : Moments). AgreesWith c.read_row.new.cache m.state.now) (so_far.moments up) (read.agrees _ (g.met.D.Disk.honest_reads l.disk (so_far.honesty.0 up), agrees_still)).1;
      moments = λ up. read.meters.moments (so_far.honesty.0 up) ∙ so_far.moments up;
      honesty = (λ up. read.meters.honesty.0 (so_far.honesty.0 up), λ down. so_far.honesty.1 (read.meters.honesty.1 down));
      failures = read.meters.failures ∙ so_far.failures;
      other_calls = read.meters.other_calls ∙ so_far.other_calls;
      looked_up = some_more (is_listed a.entries.now) a.cache.now l.cache c.read_row.new.cache (g.D.Disk.view a.disk.now).bytes_read (g.D.Disk.view l.disk).bytes_read (g.D.Disk.view c.read_row.new.disk).bytes_read so_far.looked_up read.looked_up;
      bytes_read =
          let more = take_more a.taken.now l.t-index t c.loop-t-test.true ∙ ap (λ (x : Taken). take l.t-index a.taken.now ++ x ∷ []) (sym c.t-item.is) in
          omega (arith, so_far.bytes_read, read.meters.bytes_read, ap cost_at more ∙ cost_push (take l.t-index a.taken.now) t);
    }

pub returns-in_err-row-clause-found : goal.returns-in_err-row-clause-found
returns-in_err-row-clause-found g c = λ up agrees lists want there stand.
    let a = c.args in
    let l = c.loop-t in
    let so_far = l.invariant in
    let t = c.t-item.result in
    let w = zip_at (StandsIn lists a.i a.j) a.taken.now want l.t-index t stand c.loop-t-test.true c.t-item.is in
    let stands = subst (λ n. StandsAt lists n t.place w.0) (sym c.segment_number-segment.ensures) w.1 in
    let agrees_still = subst (λ (m : Moments). AgreesWith l.cache m.state.now) (sym (so_far.moments up)) (so_far.agrees up agrees) in
    let only = c.in_err-row.ensures.found _ (g.met.D.Disk.honest_reads l.disk (so_far.honesty.0 up), agrees_still) lists w.0 (subst (λ (m : Moments). AreThere a.entries.now lists m.state.now) (sym (so_far.moments up)) there) stands in
    search rules

pub returns-clause-found : goal.returns-clause-found
returns-clause-found g c = λ up agrees lists want there stand.
    c.loop-t.invariant.found up agrees lists want there stand ∙ zip_end (StandsIn lists c.args.i c.args.j) c.args.taken.now want c.loop-t.t-index stand c.loop-t-test.false

pub returns-clause-read : goal.returns-clause-read
returns-clause-read g c = subst (λ (x : List Taken). AllZip IsReadAt x c.loop-t.rows.items) (take_all c.loop-t.t-index c.args.taken.now c.loop-t-test.false) c.loop-t.invariant.read

pub returns-in_err-row-clause-agrees : goal.returns-in_err-row-clause-agrees
returns-in_err-row-clause-agrees g c = λ up agrees.
    let so_far = c.loop-t.invariant in
    let agrees_still = subst (λ (m : Moments). AgreesWith c.loop-t.cache m.state.now) (sym (so_far.moments up)) (so_far.agrees up agrees) in
    subst (λ (m : Moments). AgreesWith c.read_row.new.cache m.state.now) (so_far.moments up) (c.in_err-row.ensures.agrees _ (g.met.D.Disk.honest_reads c.loop-t.disk (so_far.honesty.0 up), agrees_still)).1

pub returns-in_err-push-clause-agrees : goal.returns-in_err-push-clause-agrees
returns-in_err-push-clause-agrees g c = λ up agrees.
    let so_far = c.loop-t.invariant in
    let agrees_still = subst (λ (m : Moments). AgreesWith c.loop-t.cache m.state.now) (sym (so_far.moments up)) (so_far.agrees up agrees) in
    subst (λ (m : Moments). AgreesWith c.read_row.new.cache m.state.now) (so_far.moments up) (c.in_ok-row.ensures.agrees _ (g.met.D.Disk.honest_reads c.loop-t.disk (so_far.honesty.0 up), agrees_still)).1

pub returns-in_err-row-clause-looked_up : goal.returns-in_err-row-clause-looked_up
returns-in_err-row-clause-looked_up g c = some_more (is_listed c.args.entries.now) c.args.cache.now c.loop-t.cache c.read_row.new.cache (g.D.Disk.view c.args.disk.now).bytes_read (g.D.Disk.view c.loop-t.disk).bytes_read (g.D.Disk.view c.read_row.new.disk).bytes_read c.loop-t.invariant.looked_up c.in_err-row.ensures.looked_up

pub returns-in_err-push-clause-looked_up : goal.returns-in_err-push-clause-looked_up
returns-in_err-push-clause-looked_up g c = some_more (is_listed c.args.entries.now) c.args.cache.now c.loop-t.cache c.read_row.new.cache (g.D.Disk.view c.args.disk.now).bytes_read (g.D.Disk.view c.loop-t.disk).bytes_read (g.D.Disk.view c.read_row.new.disk).bytes_read c.loop-t.invariant.looked_up c.in_ok-row.ensures.looked_up

pub returns-in_err-row-clause-meters : goal.returns-in_err-row-clause-meters
returns-in_err-row-clause-meters g c = record {
  moments = search rules;
  honesty = search rules;
  failures = search rules;
  bytes_read =
      let l = c.loop-t in
      let taken = c.args.taken.now in
      let t = c.t-item.result in
      let more = take_more taken l.t-index t c.loop-t-test.true ∙ ap (λ (x : Taken). take l.t-index taken ++ x ∷ []) (sym c.t-item.is) in
      omega (arith, l.invariant.bytes_read, c.in_err-row.ensures.meters.bytes_read, ap cost_at more ∙ cost_push (take l.t-index taken) t, cost_take (l.t-index + 1) taken);
  other_calls = search rules;
}

pub returns-in_err-push-clause-meters : goal.returns-in_err-push-clause-meters
returns-in_err-push-clause-meters g c = record {
  moments = search rules;
  honesty = search rules;
  failures = search rules;
  bytes_read =
      let l = c.loop-t in
      let taken = c.args.taken.now in
      let t = c.t-item.result in
      let more = take_more taken l.t-index t c.loop-t-test.true ∙ ap (λ (x : Taken). take l.t-index taken ++ x ∷ []) (sym c.t-item.is) in
      omega (arith, l.invariant.bytes_read, c.in_ok-row.ensures.meters.bytes_read, ap cost_at more ∙ cost_push (take l.t-index taken) t, cost_take (l.t-index + 1) taken);
  other_calls = search rules;
}

pub returns-clause-meters : goal.returns-clause-meters
returns-clause-meters g c = record {
  moments = search rules;
  honesty = search rules;
  failures = search rules;
  bytes_read = omega (arith, c.loop-t.invariant.bytes_read, cost_take c.loop-t.t-index c.args.taken.now);
  other_calls = search rules;
}
