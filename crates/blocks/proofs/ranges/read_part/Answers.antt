use Rattle.std.proofs.Common.{◌≡◌, ◌+◌, ◌*◌, ◌≤◌, ◌++◌, take, drop, ◌/◌, ◌%◌, List, ℕ, length, refl, sym, ap, subst, ◌∙◌, arith, rules}
use Rattle.std.proofs.lemmas.Result.{err_from_is_err_and}
use Rattle.blocks.proofs.Looked.{none_looked_up, looked_up_next, ended, all_looked_up, part_asks}
use Rattle.blocks.proofs.PartsKept.{next_kept, used_keeps, keeps_on, count_in}
use Rattle.blocks.proofs.PartsRead.{IsReadSoFar, none_read, all_read, more_read, short_read}
use Rattle.blocks.proofs.ranges.read_part.Goals as goal

pub returns-clause-bytes : goal.returns-clause-bytes
returns-clause-bytes g c file shows =
    let inv = c.loop-done.invariant in
    let all : c.loop-done.done ≡ length c.args.into.now = omega (arith, inv.0, inv.1, c.loop-done-test.false) in
    all_read c.args.from file c.loop-done.into (length c.args.into.now) inv.0 (subst (IsReadSoFar c.args.from file c.loop-done.into) all (inv.5 file shows).1)

pub returns-then-count-skip-clause-bytes : goal.returns-then-count-skip-clause-bytes
returns-then-count-skip-clause-bytes g c file shows =
    let inv = c.loop-done.invariant in
    let at = c.args.from + c.loop-done.done in
    let counted = c.in_ok-count.ensures.count file (inv.5 file shows).0 in
    short_read c.args.from file c.args.into.now c.loop-done.done at (at / 4096) (at % 4096) c.min-taken.result c.in_ok-count.count refl (omega arith) counted
    (length c.args.into.now) c.if-count-skip.true (omega (arith, c.min-taken.ensures)) (omega (arith, inv.0, c.loop-done-test.true)) (omega (arith, inv.0, c.min-taken.ensures, c.loop-done-test.true))

pub returns-then-count-skip-clause-agrees : goal.returns-then-count-skip-clause-agrees
returns-then-count-skip-clause-agrees g c file shows =
    let inv = c.loop-done.invariant in
    c.in_ok-count.ensures.agrees file (inv.5 file shows).0

pub returns-in_err-count-clause-agrees : goal.returns-in_err-count-clause-agrees
returns-in_err-count-clause-agrees g c file shows =
    let inv = c.loop-done.invariant in
    c.in_err-count.ensures.agrees file (inv.5 file shows).0

pub returns-in_err-count-clause-kept : goal.returns-in_err-count-clause-kept
returns-in_err-count-clause-kept g c part =
    let inv = c.loop-done.invariant in
    let at = c.args.from + c.loop-done.done in
    let here = next_kept c.args.cache.now c.loop-done.cache c.args.from (length c.args.into.now) c.loop-done.done at (at / 4096) (at % 4096) refl (omega arith) (omega arith) (omega (arith, inv.0, c.loop-done-test.true)) part (inv.7 part).1 in
    let wrong = (c.in_err-count.ensures.kept here.0 here.1).0 in absurd cc

pub returns-then-count-skip-clause-kept : goal.returns-then-count-skip-clause-kept
returns-then-count-skip-clause-kept g c part =
    let inv = c.loop-done.invariant in
    let at = c.args.from + c.loop-done.done in
    let here = next_kept c.args.cache.now c.loop-done.cache c.args.from (length c.args.into.now) c.loop-done.done at (at / 4096) (at % 4096) refl (omega arith) (omega arith) (omega (arith, inv.0, c.loop-done-test.true)) part (inv.7 part).1 in
    let whole : c.in_ok-count.count ≡ 4096 = ap count_in (c.in_ok-count.ensures.kept here.0 here.1).0 in
    absurd (omega (arith, whole, c.if-count-skip.true, c.min-taken.ensures))

pub loop-done-init : goal.loop-done-init
loop-done-init g c = (
  refl,
  omega arith,
  (λ h. h, λ h. h),
  λ honest. refl,
  refl,
  λ file shows. (shows, none_read c.args.from file c.args.into.now),
  refl,
  λ part. (refl, λ q. refl),
  none_looked_up c.args.from (length c.args.into.now) c.args.cache.now (g.D.Disk.view c.args.disk.now).bytes_read,
  refl,
)

pub loop-done-preserved : goal.loop-done-preserved
unfolding looked_up_next
loop-done-preserved g c =
    let inv = c.loop-done.invariant in
    let at = c.args.from + c.loop-done.done in
    let room : c.loop-done.done + c.min-taken.result ≤ length c.loop-done.into = omega (arith, inv.0, c.min-taken.ensures, c.loop-done-test.true) in
    let long : length c.read_within.new.into ≡ length c.loop-done.into = c.read_within.auto.into in (
      long ∙ inv.0,
      omega (arith, inv.0, room),
      (λ up. c.in_ok-count.ensures.meters.honesty.0 (inv.2.0 up), λ down. inv.2.1 (c.in_ok-count.ensures.meters.honesty.1 down)),
      (λ honest. c.in_ok-count.ensures.meters.moments (inv.2.0 honest) ∙ inv.3 honest),
      c.in_ok-count.ensures.meters.failures ∙ inv.4,
      (λ file shows.
          let so_far = inv.5 file shows in (
            c.in_ok-count.ensures.agrees file so_far.0,
            more_read c.args.from file c.loop-done.into c.loop-done.done at (at / 4096) (at % 4096) c.min-taken.result c.in_ok-count.count refl (omega arith) (c.in_ok-count.ensures.count file so_far.0)
                c.read_within.new.into c.if-count-skip.false room (c.in_ok-count.ensures.bytes file so_far.0 c.if-count-skip.false) so_far.1,
          )),
      c.in_ok-count.ensures.capacity ∙ inv.6,
      (λ part.
          let still = inv.7 part in
          let here = next_kept c.args.cache.now c.loop-done.cache c.args.from (length c.args.into.now) c.loop-done.done at (at / 4096) (at % 4096) refl (omega arith) (omega arith) (omega (arith, inv.0, c.loop-done-test.true)) part still.1 in (
            (c.in_ok-count.ensures.kept here.0 here.1).1 ∙ still.0,
            keeps_on c.args.cache.now c.loop-done.cache c.read_within.new.cache still.1 (used_keeps c.loop-done.cache c.read_within.new.cache (at / 4096) (c.in_ok-count.ensures.kept here.0 here.1).2),
          )),
      looked_up_next c.args.from (length c.args.into.now) c.loop-done.done c.args.cache.now c.loop-done.cache c.read_within.new.cache (g.D.Disk.view c.args.disk.now).bytes_read (g.D.Disk.view c.loop-done.disk).bytes_read (g.D.Disk.view c.read_within.new.disk).bytes_read inv.8 (omega (arith, inv.0, c.loop-done-test.true))
          c.in_ok-count.ensures.looked_up c.min-taken.result (omega (arith, inv.0, c.min-taken.ensures)),
      c.in_ok-count.ensures.meters.other_calls ∙ inv.9,
    )

pub returns-in_err-count-clause-looked_up : goal.returns-in_err-count-clause-looked_up
returns-in_err-count-clause-looked_up g c =
    let inv = c.loop-done.invariant in
    let at = c.args.from + c.loop-done.done in
    let p = err_from_is_err_and c.from_residual.result c.from_residual.ensures.1 in
    rw p.1 (
    ended c.args.from (length c.args.into.now) c.loop-done.done c.args.cache.now c.loop-done.cache c.read_within.new.cache (g.D.Disk.view c.args.disk.now).bytes_read (g.D.Disk.view c.loop-done.disk).bytes_read (g.D.Disk.view c.read_within.new.disk).bytes_read inv.8 (omega (arith, inv.0, c.loop-done-test.true))
    c.in_err-count.ensures.looked_up
    p.0
    )

pub returns-then-count-skip-clause-looked_up : goal.returns-then-count-skip-clause-looked_up
returns-then-count-skip-clause-looked_up g c =
    let inv = c.loop-done.invariant in
    let at = c.args.from + c.loop-done.done in
    ended c.args.from (length c.args.into.now) c.loop-done.done c.args.cache.now c.loop-done.cache c.read_within.new.cache (g.D.Disk.view c.args.disk.now).bytes_read (g.D.Disk.view c.loop-done.disk).bytes_read (g.D.Disk.view c.read_within.new.disk).bytes_read inv.8 (omega (arith, inv.0, c.loop-done-test.true))
    c.in_ok-count.ensures.looked_up _

pub returns-clause-looked_up : goal.returns-clause-looked_up
returns-clause-looked_up g c =
    let inv = c.loop-done.invariant in
    all_looked_up _ c.args.from (length c.args.into.now) c.loop-done.done c.args.cache.now c.loop-done.cache (g.D.Disk.view c.args.disk.now).bytes_read (g.D.Disk.view c.loop-done.disk).bytes_read (omega (arith, inv.0, inv.1, c.loop-done-test.false)) inv.8

pub returns-in_err-count-clause-meters : goal.returns-in_err-count-clause-meters
returns-in_err-count-clause-meters g c = record {
  moments = search rules;
  honesty = search rules;
  failures = search rules;
  bytes_read = part_asks _ _ _ _ _ _ _ (returns-in_err-count-clause-looked_up g c);
  other_calls = search rules;
}

pub returns-then-count-skip-clause-meters : goal.returns-then-count-skip-clause-meters
returns-then-count-skip-clause-meters g c = record {
  moments = search rules;
  honesty = search rules;
  failures = search rules;
  bytes_read = part_asks _ _ _ _ _ _ _ (returns-then-count-skip-clause-looked_up g c);
  other_calls = search rules;
}

pub returns-clause-meters : goal.returns-clause-meters
returns-clause-meters g c = record {
  moments = search rules;
  honesty = search rules;
  failures = search rules;
  bytes_read = part_asks _ _ _ _ _ _ _ (returns-clause-looked_up g c);
  other_calls = search rules;
}
