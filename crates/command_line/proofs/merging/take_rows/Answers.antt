use Rattle.std.proofs.Common.{◌≡◌, ℕ, ◌<◌, ◌≤◌, ◌+◌, ◌-◌, ◌*◌, Ok, Err, arith, refl}
use Rattle.std.specs.Int.{div_ceil}
use Rattle.std.proofs.lemmas.Grind.{div_ceil_times}
use Rattle.std.proofs.lemmas.Result.{err_from_is_err_and}
use Rattle.command_line.specs.Merging.{rows_left}
use Rattle.command_line.proofs.Merged.{have_none, further, step_call, step_stops, stepped_on, all_taken}
use Rattle.command_line.proofs.merging.take_rows.Goals as goal

pub loop-init : goal.loop-init
loop-init g c = (λ most first more. have_none g.D.Disk.view most first _, refl, c.requires, omega arith)

-- rows are left before each step that takes some
some_left : (left end counter : ℕ) → end ≡ div_ceil left 100000 → counter < end → 1 ≤ left - counter * 100000
some_left left end counter is more =
    let near : div_ceil left 100000 * 100000 < left + 100000 = (div_ceil_times left 100000 (omega arith)).1 in
    omega (arith, near, is, more)

pub returns-in_err-merge_step-clause-progress : goal.returns-in_err-merge_step-clause-progress
returns-in_err-merge_step-clause-progress g c =
    let view = g.D.Disk.view in
    let i = c.loop.invariant in
    let e = c.in_err-merge_step.ensures in
    let refusal = c.in_err-merge_step.field-0.0 in
    let p = err_from_is_err_and c.from_residual.result c.from_residual.ensures.1 in
    let left : c.unwrap_or-left.result ≡ rows_left c.args.store.now = rw (← c.merge_left.ensures) c.unwrap_or-left.ensures in
    let some : 1 ≤ c.unwrap_or-left.result - c.loop.counter * 100000 = some_left c.unwrap_or-left.result c.div_ceil-end.result c.loop.counter c.div_ceil-end.ensures c.loop-test.true in
    let taken = i.3 in
    let more_left : 1 ≤ rows_left c.loop.store = omega (arith, left, some, taken) in
    let made = step_call view (Err refusal) c.loop.store c.merge_step.new.self (e.answer, e.undamaged) (e.refused, e.meters.looked_up, e.meters.counts) e.crash in
    rw (p.1, p.2) (further view _ _ _ (Err refusal) i.0 i.1 (step_stops view _ _ refusal i.2 more_left made))

pub loop-preserved : goal.loop-preserved
loop-preserved g c =
    let view = g.D.Disk.view in
    let i = c.loop.invariant in
    let e = c.in_ok-merge_step.ensures in
    let rows = c.in_ok-merge_step.field-0 in
    let left : c.unwrap_or-left.result ≡ rows_left c.args.store.now = rw (← c.merge_left.ensures) c.unwrap_or-left.ensures in
    let some : 1 ≤ c.unwrap_or-left.result - c.loop.counter * 100000 = some_left c.unwrap_or-left.result c.div_ceil-end.result c.loop.counter c.div_ceil-end.ensures c.loop-test.true in
    let before = i.3 in
    let more_left : 1 ≤ rows_left c.loop.store = omega (arith, left, some, before) in
    let made = step_call view (Ok rows) c.loop.store c.merge_step.new.self (e.answer, e.undamaged) (e.refused, e.meters.looked_up, e.meters.counts) e.crash in
    let on = stepped_on view _ _ rows more_left made in
    let now = on.3 in
    let same = i.1 in
    let still = on.1 in
    (further view _ _ _ (Ok tt) i.0 i.1 on.0, omega (arith, same, still), on.2, omega (arith, before, now))

pub returns-clause-progress : goal.returns-clause-progress
returns-clause-progress g c = c.loop.invariant.0

pub returns-clause-taken : goal.returns-clause-taken
returns-clause-taken g c =
    let i = c.loop.invariant in
    let left : c.unwrap_or-left.result ≡ rows_left c.args.store.now = rw (← c.merge_left.ensures) c.unwrap_or-left.ensures in
    let enough : c.unwrap_or-left.result ≤ div_ceil c.unwrap_or-left.result 100000 * 100000 = (div_ceil_times c.unwrap_or-left.result 100000 (omega arith)).0 in
    let taken : rows_left c.loop.store ≡ rows_left c.args.store.now - c.loop.counter * 100000 = i.3 in
    let end : c.div_ceil-end.result ≡ div_ceil c.unwrap_or-left.result 100000 = c.div_ceil-end.ensures in
    let past = c.loop-test.false in
    let more : div_ceil c.unwrap_or-left.result 100000 * 100000 ≤ c.loop.counter * 100000 = omega (arith, end, past) in
    (i.1, all_taken g.D.Disk.view c.loop.store i.2 (omega (arith, taken, left, enough, more)))
