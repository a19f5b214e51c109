use Rattle.std.specs.Prelude.{OnOk}
use Rattle.std.proofs.Common.{ℕ, List, ◌++◌, inl, refl, sym, ap, subst, ◌∙◌, arith}
use Rattle.std.proofs.lemmas.Result.{err_from_is_err_and}
use Rattle.disk_model.specs.Disk.{Moments, LeavesOnly}
use Rattle.blocks.specs.declared.extent.Extent.{Extent}
use Rattle.blocks.specs.Cache.{AgreesWith, Forgets, is_in}
use Rattle.blocks.specs.Calls.{call_count}
use Rattle.blocks.proofs.Counted.{at_most}
use Rattle.store_image.specs.Kept.{history_of}
use Rattle.store_image.specs.Images.{RepresentsAs}
use Rattle.store_image.specs.Ahead.{IsAhead}
use Rattle.history_store.specs.Answers.{Counts}
use Rattle.history_store.specs.Meters.{UncalledIfRefused}
use Rattle.history_store.proofs.KeptBlocks.{part_stepped}
use Rattle.checksum.specs.Crc32c.{continued, crc32c}
use Rattle.checksum.proofs.ChecksumLaws.{goes_on as crc_goes_on}
use Rattle.history_store.proofs.SteppedMerge.{on_ok, not_called, on_still, agrees_still, unless_given, unless_written}
use Rattle.history_store.proofs.stepping.write_taken.Goals as goal

pub returns-in_err-bytes-clause-undamaged : goal.returns-in_err-bytes-clause-undamaged
returns-in_err-bytes-clause-undamaged g c up agrees want read =
    let p = err_from_is_err_and c.from_residual.result c.from_residual.ensures.1 in
    rw (p.1, p.2) (c.in_err-bytes.ensures.found up agrees want read)

pub returns-in_err-bytes-clause-any_moment : goal.returns-in_err-bytes-clause-any_moment
returns-in_err-bytes-clause-any_moment g c up slot d lists on ahead = not_called _ _ slot d lists (c.read_part.ensures.meters.moments up) on

pub returns-in_err-bytes-clause-agrees : goal.returns-in_err-bytes-clause-agrees
returns-in_err-bytes-clause-agrees g c up agrees =
    unless_given c.from_residual.result (AgreesWith c.read_part.new.cache (g.D.Disk.view c.read_part.new.disk).moments.state.now)
    (agrees_still (g.D.Disk.view c.args.disk.now).moments (g.D.Disk.view c.read_part.new.disk).moments c.read_part.new.cache (c.read_part.ensures.meters.moments up) (c.read_part.ensures.agrees up agrees))

pub returns-clause-any_moment : goal.returns-clause-any_moment
returns-clause-any_moment g c up slot d lists on ahead =
    let old = (g.D.Disk.view c.args.disk.now).moments in
    let mid = (g.D.Disk.view c.read_part.new.disk).moments in
    let read = c.read_part.ensures in
    subst (λ (x : Moments). LeavesOnly x (g.D.Disk.view c.write_part.new.disk).moments (RepresentsAs d.layout (history_of d lists))) (read.meters.moments up)
    (c.write_part.ensures.any_moment (read.meters.honesty.0 up) slot d lists (on_still old mid slot d lists (read.meters.moments up) on) (subst (λ (e : Extent). IsAhead e d.entries) (sym c.extent.ensures) ahead))

pub returns-clause-on_disk : goal.returns-clause-on_disk
returns-clause-on_disk g c up slot d lists on ahead =
    let old = (g.D.Disk.view c.args.disk.now).moments in
    let mid = (g.D.Disk.view c.read_part.new.disk).moments in
    let read = c.read_part.ensures in
    c.write_part.ensures.on_disk (read.meters.honesty.0 up) slot d lists (on_still old mid slot d lists (read.meters.moments up) on) (subst (λ (e : Extent). IsAhead e d.entries) (sym c.extent.ensures) ahead)

pub returns-clause-agrees : goal.returns-clause-agrees
returns-clause-agrees g c up agrees =
    let read = c.read_part.ensures in
    unless_written c.write_part.result (AgreesWith c.write_part.new.cache (g.D.Disk.view c.write_part.new.disk).moments.state.now) c.write_part.ensures.refused
    (c.write_part.ensures.agrees (read.meters.honesty.0 up) (agrees_still (g.D.Disk.view c.args.disk.now).moments (g.D.Disk.view c.read_part.new.disk).moments c.read_part.new.cache (read.meters.moments up) (read.agrees up agrees)))

pub returns-in_err-bytes-clause-meters : goal.returns-in_err-bytes-clause-meters
returns-in_err-bytes-clause-meters g c =
    let p = err_from_is_err_and c.from_residual.result c.from_residual.ensures.1 in
    let r = c.in_err-bytes.ensures.meters in
    rw (p.1, p.2) (record {
      counts = record { honesty = r.honesty; failures = r.failures; bytes_read = r.bytes_read; other_calls = omega (arith, r.other_calls) };
      uncalled = λ other. r.other_calls;
      calls = λ up. omega (arith, ap (λ (m : Moments). call_count m) (r.moments up));
      looked_up = (c.read_part.new.cache, c.in_err-bytes.ensures.looked_up, inl refl);
    })

pub returns-clause-meters : goal.returns-clause-meters
returns-clause-meters g c =
    let r = c.in_ok-bytes.ensures.meters in
    let w = c.write_part.ensures.meters in
    let mid = c.read_part.new.cache in
    let new = c.write_part.new.cache in
    record {
      counts = record {
        honesty = (λ up. w.counts.honesty.0 (r.honesty.0 up), λ down. r.honesty.1 (w.counts.honesty.1 down));
        failures = subst (λ n. Counts c.write_part.result n (g.D.Disk.view c.write_part.new.disk).failures) r.failures w.counts.failures;
        bytes_read = omega (arith, r.bytes_read, w.counts.bytes_read);
        other_calls = omega (arith, r.other_calls, w.counts.other_calls);
      };
      uncalled = subst (λ n. UncalledIfRefused c.write_part.result n (g.D.Disk.view c.write_part.new.disk).other_calls) r.other_calls w.uncalled;
      calls = λ up. omega (arith, ap (λ (m : Moments). call_count m) (r.moments up), at_most c.write_part.result 1 (g.D.Disk.view c.read_part.new.disk).moments (g.D.Disk.view c.write_part.new.disk).moments (w.calls (r.honesty.0 up)));
      looked_up = part_stepped c.write_part.result _ _ _ mid new _ _ _ c.in_ok-bytes.ensures.looked_up w.counts.bytes_read
          (subst (λ (e : Extent). OnOk c.write_part.result (Forgets (is_in e) mid new)) c.extent.ensures w.drops) w.keeps;
    }

pub returns-clause-summed : goal.returns-clause-summed
returns-clause-summed g c up agrees want read before is =
    let found = c.in_ok-bytes.ensures.found up agrees want read in
    on_ok c.write_part.result (c.append.ensures ∙ ap (λ (n : ℕ). continued n c.deref.result.now) is ∙ crc_goes_on before c.deref.result.now ∙ ap (λ (b : List ℕ). crc32c (before ++ b)) (c.deref.ensures.value ∙ found))
