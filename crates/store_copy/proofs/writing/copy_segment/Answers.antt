use Rattle.std.proofs.Common.{◌≡◌, ◌+◌, ◌++◌, List, [], ◌∷◌, length, take, refl, sym, ap, subst, ◌∙◌, arith}
use Rattle.std.proofs.lemmas.List.{take_all}
use Rattle.disk_model.specs.Disk.{Moments}
use Rattle.blocks.specs.Extents.{byte_range}
use Rattle.blocks.proofs.Elsewhere.{elsewhere_none, elsewhere_on}
use Rattle.blocks.proofs.Within.{within_none, within_on}
use Rattle.checksum.specs.Crc32c.{crc32c}
use Rattle.history_model.specs.declared.stamped.StampedRow.{StampedRow}
use Rattle.directory.specs.Listings.{form_in}
use Rattle.segment.specs.Records.{segment_in, segment_of}
use Rattle.segment.specs.Standing.{IsPlaceIn}
use Rattle.segment.proofs.Posting.{as_many_places as places_long}
use Rattle.segment.proofs.SegmentLaws.{no_rows_plain}
use Rattle.store_image.specs.Ahead.{BeginsWith}
use Rattle.store_image.specs.Reader.{HasSeen, next_place, segment_bytes}
use Rattle.store_copy.specs.Copying.{up_to}
use Rattle.store_copy.specs.Private.Writing.{ArePending}
use Rattle.store_copy.proofs.Done.{is_no_damage}
use Rattle.store_copy.proofs.Records.{there_at}
use Rattle.store_copy.proofs.Steps.{all_summed, all_written, kept, kept_bytes, left_out, no_pending, none_bytes, place_more, step_at, taken_fewer}
use Rattle.store_copy.proofs.writing.copy_segment.Goals as goal
use Rattle.store_copy.proofs.writing.copy_segment.Goals.{then-place-imports+in-Ok-put_row, else-place-imports}

pub loop-place-init : goal.loop-place-init
loop-place-init g c =
    let range = byte_range c.args.to in
    let old = (g.T.Disk.view c.args.target.now).moments in
    let empty = ap length no_rows_plain in
    record {
      source = (λ h. h, λ h. h);
      target = (λ h. h, λ h. h);
      moments = λ h. refl;
      source_failures = refl;
      target_failures = refl;
      other_calls = refl;
      bytes_read = refl;
      reads = c.in-Ok.ensures.reads;
      place = omega (arith, c.in-Ok.ensures.place, empty);
      seen = λ h. c.in-Ok.ensures.seen _;
      requested = omega arith;
      len = omega (arith, c.new-pending.ensures.written, ap length c.new-pending.ensures.bytes, none_bytes c.args.imports);
      run = λ h. within_none old range.0 range.1;
      elsewhere = λ h. elsewhere_none (range ∷ []) old.state.now;
      pending = λ s t at. no_pending c.args.form c.args.to c.args.imports [] c.new-pending.result.written c.new-pending.result.crc c.new-pending.result.bytes.items old.state.now refl c.new-pending.ensures.written c.new-pending.ensures.crc c.new-pending.ensures.bytes;
    }

pub returns-in-Err-clause-found : goal.returns-in-Err-clause-found
returns-in-Err-clause-found g c = λ s at.
    let from = c.args.from in
    let rows = c.args.segment.now in
    let p = c.place-item.result in
    let inv = c.loop-place.invariant in
    let now = (g.S.Disk.view c.args.source.now).moments.state.now in
    let step = step_at rows c.places-place-items.result.now c.loop-place.place-index p c.places-place-items.ensures c.loop-place-test.true c.place-item.is in
    let same = ap (λ (m : Moments). m.state.now) (inv.moments s) in
    let seen = subst (λ l. HasSeen c.loop-place.reader l) (sym same) (inv.seen s) in
    let there = subst (λ l. IsPlaceIn (form_in from.sums) (segment_bytes from l) p step.row) (sym same) (there_at now from rows step.row p at step.there) in
    is_no_damage c.in-Err.fault (c.in-Err.ensures.found (inv.source.0 s) seen from step.row inv.reads (inv.place ∙ sym step.at_is) there)

pub put_row-requires-clause-inside : goal.put_row-requires-clause-inside
put_row-requires-clause-inside g c =
    let n = c.args.imports in
    let rows = c.args.segment.now in
    let i = c.loop-place.place-index in
    let p = c.place-item.result in
    let step = step_at rows c.places-place-items.result.now i p c.places-place-items.ensures c.loop-place-test.true c.place-item.is in
    let more = kept_bytes n rows i p step c.if-place-imports.true in
    let bytes = c.in-Ok-read_row.ensures.of_place.bytes in
    omega (arith, more, bytes, c.loop-place.invariant.len, (taken_fewer n rows (i + 1)).0, c.requires.size)

pub returns-in-Err-put_row-clause-any_moment : goal.returns-in-Err-put_row-clause-any_moment
returns-in-Err-put_row-clause-any_moment g c = λ h.
    let range = byte_range c.args.to in
    let inv = c.loop-place.invariant in
    within_on (g.T.Disk.view c.args.target.now).moments (g.T.Disk.view c.loop-place.target).moments (g.T.Disk.view c.put_row.new.target).moments range.0 range.1 (inv.run h) (c.put_row.ensures.any_moment (inv.target.0 h))

pub loop-place-preserved : goal.loop-place-preserved
loop-place-preserved g c =
    let n = c.args.imports in
    let from = c.args.from in
    let rows = c.args.segment.now in
    let i = c.loop-place.place-index in
    let p = c.place-item.result in
    let inv = c.loop-place.invariant in
    let form = c.args.form in
    let extent = c.args.to in
    let range = byte_range extent in
    let old = (g.T.Disk.view c.args.target.now).moments in
    let mid = (g.T.Disk.view c.loop-place.target).moments in
    let now = (g.S.Disk.view c.args.source.now).moments.state.now in
    let step = step_at rows c.places-place-items.result.now i p c.places-place-items.ensures c.loop-place-test.true c.place-item.is in
    let read = c.in-Ok-read_row.ensures in
    let row = c.in-Ok-read_row.row in
    let at_is = step.at_is in
    let place : next_place c.read_row.new.reader ≡ length (segment_of (take (i + 1) rows)) = omega (arith, read.place, inv.place, at_is, place_more n rows i p step) in
    elim c.if-place-imports.branch [
      | then-place-imports+in-Ok-put_row w ↦
          let done = w.in-Ok-put_row.ensures in
          let new = (g.T.Disk.view w.put_row.new.target).moments in
          let bytes = read.of_place.bytes in
          rw (w.target-is, w.pending-is) (record {
            source = (λ h. read.meters.honesty.0 (inv.source.0 h), λ h. inv.source.1 (read.meters.honesty.1 h));
            target = (λ h. done.meters.honesty.0 (inv.target.0 h), λ h. inv.target.1 (done.meters.honesty.1 h));
            moments = λ h. read.meters.moments (inv.source.0 h) ∙ inv.moments h;
            source_failures = read.meters.failures ∙ inv.source_failures;
            target_failures = done.meters.failures ∙ inv.target_failures;
            other_calls = read.meters.other_calls ∙ inv.other_calls;
            bytes_read = done.meters.bytes_read ∙ inv.bytes_read;
            reads = read.reads from inv.reads;
            place = place;
            seen = λ s.
                let same = ap (λ (m : Moments). m.state.now) (inv.moments s) in
                subst (λ l. HasSeen c.read_row.new.reader l) same (read.seen (inv.source.0 s) (subst (λ l. HasSeen c.loop-place.reader l) (sym same) (inv.seen s)));
            requested = omega (arith, inv.requested, read.meters.bytes_read);
            len = omega (arith, done.len, inv.len, bytes, kept_bytes n rows i p step w.if-place-imports.true);
            run = λ h. within_on old mid new range.0 range.1 (inv.run h) (done.any_moment (inv.target.0 h));
            elsewhere = λ h. elsewhere_on (range ∷ []) old.state.now mid.state.now new.state.now (inv.elsewhere h) (done.elsewhere (inv.target.0 h));
            pending = λ s t at.
                let same = ap (λ (m : Moments). m.state.now) (inv.moments s) in
                let seen = subst (λ l. HasSeen c.loop-place.reader l) (sym same) (inv.seen s) in
                let there = subst (λ l. IsPlaceIn (form_in from.sums) (segment_bytes from l) p step.row) (sym same) (there_at now from rows step.row p at step.there) in
                let is : row ≡ step.row = read.found (inv.source.0 s) seen from step.row inv.reads (inv.place ∙ sym at_is) there in
                let all = kept n rows i p step w.if-place-imports.true ∙ ap (λ (r : StampedRow). up_to n (take i rows) ++ r ∷ []) (sym is) in
                subst (λ (l : List StampedRow). ArePending form extent l w.put_row.new.pending.written w.put_row.new.pending.crc w.put_row.new.pending.bytes.items new.state.now) (sym all)
                (done.pending (inv.target.0 t) (up_to n (take i rows)) (inv.pending s t at));
          })
      | else-place-imports w ↦
          let out = left_out n rows i p step (omega (arith, w.if-place-imports.false)) in
          rw (w.target-is, w.pending-is) (record {
            source = (λ h. read.meters.honesty.0 (inv.source.0 h), λ h. inv.source.1 (read.meters.honesty.1 h));
            target = inv.target;
            moments = λ h. read.meters.moments (inv.source.0 h) ∙ inv.moments h;
            source_failures = read.meters.failures ∙ inv.source_failures;
            target_failures = inv.target_failures;
            other_calls = read.meters.other_calls ∙ inv.other_calls;
            bytes_read = inv.bytes_read;
            reads = read.reads from inv.reads;
            place = place;
            seen = λ s.
                let same = ap (λ (m : Moments). m.state.now) (inv.moments s) in
                subst (λ l. HasSeen c.read_row.new.reader l) same (read.seen (inv.source.0 s) (subst (λ l. HasSeen c.loop-place.reader l) (sym same) (inv.seen s)));
            requested = omega (arith, inv.requested, read.meters.bytes_read);
            len = omega (arith, inv.len, ap (λ (l : List StampedRow). length (segment_of l)) out);
            run = inv.run;
            elsewhere = inv.elsewhere;
            pending = λ s t at. subst (λ (l : List StampedRow). ArePending form extent l c.loop-place.pending.written c.loop-place.pending.crc c.loop-place.pending.bytes.items mid.state.now) (sym out) (inv.pending s t at);
          })
    ]

pub flush-requires-clause-inside : goal.flush-requires-clause-inside
flush-requires-clause-inside g c =
    omega (arith, c.loop-place.invariant.len, (taken_fewer c.args.imports c.args.segment.now c.loop-place.place-index).0, c.requires.size)

pub returns-in-Ok-flush-clause-written : goal.returns-in-Ok-flush-clause-written
returns-in-Ok-flush-clause-written g c = λ s t at.
    let n = c.args.imports in
    let rows = c.args.segment.now in
    let i = c.loop-place.place-index in
    let inv = c.loop-place.invariant in
    let form = c.args.form in
    let file = (g.T.Disk.view c.flush.new.target).moments.state.now in
    let long = ap length c.places-place-items.ensures ∙ places_long 0 rows in
    let all = c.in-Ok-flush.ensures.pending (inv.target.0 t) form (up_to n (take i rows)) (inv.pending s t at) in
    let there = all_written form c.args.to (up_to n (take i rows)) c.flush.new.self.written c.flush.new.self.crc c.flush.new.self.bytes.items file c.in-Ok-flush.ensures.none all in
    subst (λ (l : List StampedRow). BeginsWith c.args.to (segment_in form (up_to n l)) file) (take_all i rows (omega (arith, c.loop-place-test.false, long))) there

pub returns-in-Ok-flush-clause-summed : goal.returns-in-Ok-flush-clause-summed
returns-in-Ok-flush-clause-summed g c = λ s t at.
    let n = c.args.imports in
    let rows = c.args.segment.now in
    let i = c.loop-place.place-index in
    let inv = c.loop-place.invariant in
    let form = c.args.form in
    let file = (g.T.Disk.view c.flush.new.target).moments.state.now in
    let long = ap length c.places-place-items.ensures ∙ places_long 0 rows in
    let all = c.in-Ok-flush.ensures.pending (inv.target.0 t) form (up_to n (take i rows)) (inv.pending s t at) in
    all_summed form c.args.to (up_to n (take i rows)) c.flush.new.self.written c.flush.new.self.crc c.flush.new.self.bytes.items file c.in-Ok-flush.ensures.none all
    ∙ ap (λ (l : List StampedRow). crc32c (segment_in form (up_to n l))) (take_all i rows (omega (arith, c.loop-place-test.false, long)))

pub returns-in-Ok-flush-clause-any_moment : goal.returns-in-Ok-flush-clause-any_moment
returns-in-Ok-flush-clause-any_moment g c = λ h.
    let range = byte_range c.args.to in
    let inv = c.loop-place.invariant in
    within_on (g.T.Disk.view c.args.target.now).moments (g.T.Disk.view c.loop-place.target).moments (g.T.Disk.view c.flush.new.target).moments range.0 range.1 (inv.run h) (c.flush.ensures.any_moment (inv.target.0 h))

pub returns-in-Ok-flush-clause-elsewhere : goal.returns-in-Ok-flush-clause-elsewhere
returns-in-Ok-flush-clause-elsewhere g c = λ h.
    let inv = c.loop-place.invariant in
    elsewhere_on (byte_range c.args.to ∷ []) (g.T.Disk.view c.args.target.now).moments.state.now (g.T.Disk.view c.loop-place.target).moments.state.now (g.T.Disk.view c.flush.new.target).moments.state.now (inv.elsewhere h) (c.in-Ok-flush.ensures.elsewhere (inv.target.0 h))

pub returns-clause-any_moment : goal.returns-clause-any_moment
returns-clause-any_moment g c = λ h.
    let range = byte_range c.args.to in
    let inv = c.loop-place.invariant in
    within_on (g.T.Disk.view c.args.target.now).moments (g.T.Disk.view c.loop-place.target).moments (g.T.Disk.view c.flush.new.target).moments range.0 range.1 (inv.run h) (c.flush.ensures.any_moment (inv.target.0 h))
