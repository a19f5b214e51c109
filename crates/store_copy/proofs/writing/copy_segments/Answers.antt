use Rattle.std.proofs.Common.{◌≡◌, ℕ, ◌+◌, ◌<◌, ◌≤◌, List, length, take, sym, ap, subst, ◌∙◌, arith, rules}
use Rattle.blocks.specs.declared.extent.Extent.{Extent}
use Rattle.blocks.specs.Extents.{byte_range}
use Rattle.checksum.specs.Crc32c.{crc32c}
use Rattle.directory.specs.declared.entry.Entry.{Entry}
use Rattle.directory.specs.declared.sums.Sums.TheVariants as sums
use Rattle.directory.specs.Listings.{form_of}
use Rattle.segment.specs.Records.{segment_in, segment_of}
use Rattle.store_image.specs.Ahead.{BeginsWith}
use Rattle.store_image.proofs.Segments.{bytes_more, bytes_up_to, bytes_within}
use Rattle.store_copy.specs.Copying.{lists_up_to, up_to}
use Rattle.store_copy.specs.Answers.{IsFailure}
use Rattle.store_copy.proofs.Done.{all_done, fails_in, held_none, held_some, run_shut, segment_still}
use Rattle.store_copy.proofs.Listing.{end_least}
use Rattle.store_copy.proofs.Planned.{all_exact, exact_more, exact_none, has_room, one_more, skipped, so_far_listed, some_bytes_of}
use Rattle.store_copy.proofs.writing.copy_segments.Goals as goal
use Rattle.store_copy.proofs.writing.copy_segments.Goals.{then-size-gt0+in-Ok, else-size-gt0}

-- what an entry is read from where there is none
abbrev no_entry : Entry
no_entry = record { first = 0; bytes = 0; rows = 0; sums = sums.Nowhere }

pub returns-in-Err-clause-found : goal.returns-in-Err-clause-found
returns-in-Err-clause-found g c = λ s are held.
    let rows = c.index-segments-i.result in
    let inv = c.loop-i.invariant in
    let lt : c.loop-i.i < length c.args.segments.now = omega (arith, c.loop-i-test.true) in
    subst IsFailure (sym c.in_segment.ensures)
    (fails_in _ c.in-Err.fault (c.in-Err.ensures.found (inv.source.0 s) (segment_still (g.S.Disk.view c.args.source.now).moments (g.S.Disk.view c.loop-i.source).moments c.args.from.now c.args.segments.now c.loop-i.i _ rows (inv.moments s) are held lt c.index-segments-i.is)))

pub returns-in-Err-clause-any_moment : goal.returns-in-Err-clause-any_moment
returns-in-Err-clause-any_moment g c = λ t shut.
    let inv = c.loop-i.invariant in
    let to : Extent = record { first = c.loop-i.first; bytes = c.size_up_to-size.result.bytes } in
    let least = end_least 4 (lists_up_to c.args.copy.now.imports (take c.loop-i.i c.args.segments.now)) in
    let first_is = inv.so_far.first_is in
    run_shut (g.T.Disk.view c.args.target.now).moments (g.T.Disk.view c.loop-i.target).moments (g.T.Disk.view c.copy_segment.new.target).moments (byte_range to) (omega (arith, first_is, least)) (inv.run t shut) (c.copy_segment.ensures.any_moment (inv.target.0 t))

pub copy_segment-requires-clause-below_limit : goal.copy_segment-requires-clause-below_limit
copy_segment-requires-clause-below_limit g c =
    let lt : c.loop-i.i < length c.args.segments.now = omega (arith, c.loop-i-test.true) in
    let same = c.imports-imports.ensures in
    let bytes = c.size_up_to-size.ensures.bytes ∙ ap (λ k. length (segment_of (up_to k c.index-segments-i.result))) same in
    has_room c.args.copy.now.imports c.args.segments.now c.loop-i.i c.index-segments-i.result lt c.index-segments-i.is c.loop-i.first c.size_up_to-size.result.bytes c.loop-i.invariant.so_far.first_is bytes c.requires.listed.fits

pub list_segment-first-requires-clause-fits : goal.list_segment-first-requires-clause-fits
list_segment-first-requires-clause-fits g c =
    let lt : c.loop-i.i < length c.args.segments.now = omega (arith, c.loop-i-test.true) in
    let same = c.imports-imports.ensures in
    let bytes = c.size_up_to-size.ensures.bytes ∙ ap (λ k. length (segment_of (up_to k c.index-segments-i.result))) same in
    has_room c.args.copy.now.imports c.args.segments.now c.loop-i.i c.index-segments-i.result lt c.index-segments-i.is c.loop-i.first c.size_up_to-size.result.bytes c.loop-i.invariant.so_far.first_is bytes c.requires.listed.fits

pub list_segment-first-requires-clause-listing : goal.list_segment-first-requires-clause-listing
list_segment-first-requires-clause-listing g c =
    let blank = c.args.copy.now in
    let lists = c.args.segments.now in
    let i = c.loop-i.i in
    let rows = c.index-segments-i.result in
    let size = c.size_up_to-size.result in
    let lt : i < length lists = omega (arith, c.loop-i-test.true) in
    let same = c.imports-imports.ensures in
    let bytes = c.size_up_to-size.ensures.bytes ∙ ap (λ k. length (segment_of (up_to k rows))) same in
    let count = c.size_up_to-size.ensures.rows ∙ ap (λ k. length (up_to k rows)) same in
    let some : 1 ≤ length (up_to blank.imports rows) = omega (arith, c.if-size-gt0.true, count) in
    let more = one_more blank.layout blank.imports lists i rows lt c.index-segments-i.is c.loop-i.copy c.loop-i.first c.loop-i.invariant.so_far size bytes count some c.in-Ok.crc (omega arith) in
    so_far_listed blank.layout blank.imports lists (i + 1) _ _ more c.requires.listed

pub loop-i-preserved : goal.loop-i-preserved
loop-i-preserved g c =
    let blank = c.args.copy.now in
    let n = blank.imports in
    let layout = blank.layout in
    let lists = c.args.segments.now in
    let i = c.loop-i.i in
    let rows = c.index-segments-i.result in
    let size = c.size_up_to-size.result in
    let lt : i < length lists = omega (arith, c.loop-i-test.true) in
    let is = c.index-segments-i.is in
    let inv = c.loop-i.invariant in
    let same = c.imports-imports.ensures in
    let bytes = c.size_up_to-size.ensures.bytes ∙ ap (λ k. length (segment_of (up_to k rows))) same in
    let count = c.size_up_to-size.ensures.rows ∙ ap (λ k. length (up_to k rows)) same in
    let form_is = c.form-form.ensures ∙ ap form_of c.layout.ensures in
    let old = (g.T.Disk.view c.args.target.now).moments in
    let mid = (g.T.Disk.view c.loop-i.target).moments in
    elim c.if-size-gt0.branch [
      | then-size-gt0+in-Ok w ↦
          let done = w.in-Ok.ensures in
          let new = (g.T.Disk.view w.copy_segment.new.target).moments in
          let to : Extent = record { first = c.loop-i.first; bytes = size.bytes } in
          let some : 1 ≤ length (up_to n rows) = omega (arith, w.if-size-gt0.true, count) in
          let first_is = inv.so_far.first_is in
          let least = end_least 4 (lists_up_to n (take i lists)) in
          let listed = w.list_segment-first.ensures in
          rw (w.source-is, w.target-is, w.copy-is, w.first-is) (record {
            source = (λ h. done.source_meters.honesty.0 (inv.source.0 h), λ h. inv.source.1 (done.source_meters.honesty.1 h));
            target = (λ h. done.target_meters.honesty.0 (inv.target.0 h), λ h. inv.target.1 (done.target_meters.honesty.1 h));
            moments = λ h. done.source_meters.moments (inv.source.0 h) ∙ inv.moments h;
            source_failures = done.source_meters.failures ∙ inv.source_failures;
            target_failures = done.target_meters.failures ∙ inv.target_failures;
            other_calls = done.source_meters.other_calls ∙ inv.other_calls;
            bytes_read = done.target_meters.bytes_read ∙ inv.bytes_read;
            requested = omega (arith, inv.requested, done.source_meters.bytes_read, bytes_more c.args.from.now i no_entry (omega (arith, lt, c.requires.from)));
            so_far = rw (listed.listed, listed.end) (one_more layout n lists i rows lt is c.loop-i.copy c.loop-i.first inv.so_far size bytes count some w.in-Ok.crc (omega arith));
            long = λ h. let so_far = inv.long h in let no_shorter = (done.elsewhere (inv.target.0 h)).no_shorter in omega (arith, so_far, no_shorter);
            run = λ h shut. run_shut old mid new (byte_range to) (omega (arith, first_is, least)) (inv.run h shut) (done.any_moment (inv.target.0 h));
            exact = λ s t are held.
                let crc = done.summed (inv.source.0 s) (inv.target.0 t) (segment_still (g.S.Disk.view c.args.source.now).moments (g.S.Disk.view c.loop-i.source).moments c.args.from.now lists i no_entry rows (inv.moments s) are held lt is) ∙ (λ k. crc32c (segment_in (form_is k) (up_to (same k) rows))) in
                rw (listed.listed) (exact_more layout n lists i rows lt is c.loop-i.copy c.loop-i.first inv.so_far size bytes count some w.in-Ok.crc (omega arith) crc (inv.exact s t are held));
            held = λ s t are held.
                let written = done.written (inv.source.0 s) (inv.target.0 t) (segment_still (g.S.Disk.view c.args.source.now).moments (g.S.Disk.view c.loop-i.source).moments c.args.from.now lists i no_entry rows (inv.moments s) are held lt is) in
                let begins = subst (λ (l : List ℕ). BeginsWith to l new.state.now) (λ k. segment_in (form_is k) (up_to (same k) rows)) written in
                held_some layout n lists i rows lt is some to mid.state.now new.state.now (λ k. record { first = first_is k; bytes = bytes k }) (some_bytes_of (up_to n rows) some) (done.elsewhere (inv.target.0 t)) begins (inv.held s t are held);
          })
      | else-size-gt0 w ↦
          let none : length (up_to n rows) ≡ 0 = omega (arith, w.if-size-gt0.false, count) in
          rw (w.source-is, w.target-is, w.copy-is, w.first-is) (record {
            source = inv.source;
            target = inv.target;
            moments = inv.moments;
            source_failures = inv.source_failures;
            target_failures = inv.target_failures;
            other_calls = inv.other_calls;
            bytes_read = inv.bytes_read;
            requested = omega (arith, inv.requested, bytes_more c.args.from.now i no_entry (omega (arith, lt, c.requires.from)));
            so_far = skipped layout n lists i rows lt is c.loop-i.copy c.loop-i.first inv.so_far none;
            long = inv.long;
            run = inv.run;
            exact = λ s t are held. exact_none layout n lists i rows lt is c.loop-i.copy c.loop-i.first inv.so_far none (inv.exact s t are held);
            held = λ s t are held. held_none n lists i rows lt is layout mid.state.now none (inv.held s t are held);
          })
    ]

pub returns-in-Err-clause-source_meters : goal.returns-in-Err-clause-source_meters
returns-in-Err-clause-source_meters g c = record {
  moments = search rules;
  honesty = search rules;
  failures = search rules;
  bytes_read =
      let lt : c.loop-i.i < length c.args.segments.now = omega (arith, c.loop-i-test.true) in
      omega (arith, c.loop-i.invariant.requested, c.in-Err.ensures.source_meters.bytes_read, bytes_up_to c.args.from.now c.loop-i.i no_entry (omega (arith, lt, c.requires.from)));
  other_calls = search rules;
}

pub returns-clause-source_meters : goal.returns-clause-source_meters
returns-clause-source_meters g c = record {
  moments = search rules;
  honesty = search rules;
  failures = search rules;
  bytes_read = omega (arith, c.loop-i.invariant.requested, bytes_within c.args.from.now c.loop-i.i);
  other_calls = search rules;
}

pub returns-clause-listing : goal.returns-clause-listing
returns-clause-listing g c =
    let blank = c.args.copy.now in
    so_far_listed blank.layout blank.imports c.args.segments.now c.loop-i.i c.loop-i.copy c.loop-i.first c.loop-i.invariant.so_far c.requires.listed

pub returns-clause-copied : goal.returns-clause-copied
returns-clause-copied g c = λ s t are held.
    let blank = c.args.copy.now in
    let inv = c.loop-i.invariant in
    let past : length c.args.segments.now ≤ c.loop-i.i = omega (arith, c.loop-i-test.false) in
    all_exact blank.layout blank.imports c.args.segments.now c.loop-i.i c.loop-i.copy c.loop-i.first past inv.so_far (inv.exact s t are held)

pub returns-clause-held : goal.returns-clause-held
returns-clause-held g c = λ s t are held.
    let blank = c.args.copy.now in
    let inv = c.loop-i.invariant in
    let past : length c.args.segments.now ≤ c.loop-i.i = omega (arith, c.loop-i-test.false) in
    all_done blank.layout blank.imports c.args.segments.now c.loop-i.i c.loop-i.copy.entries (g.T.Disk.view c.loop-i.target).moments.state.now past (inv.exact s t are held) (inv.held s t are held)
