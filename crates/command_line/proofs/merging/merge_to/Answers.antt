use Rattle.std.proofs.Common.{◌≡◌, ◌+◌, ◌<◌, min, Ok, Err, arith}
use Rattle.std.proofs.lemmas.Result.{err_from_is_err_and}
use Rattle.command_line.specs.Merging.{segments_of}
use Rattle.command_line.proofs.Merged.{have_none, have_both, stopped_so, halted, trim_call, trimmed_to, not_trimmed_to}
use Rattle.command_line.proofs.merging.merge_to.Goals as goal

pub loop-init : goal.loop-init
loop-init g c = (have_none g.D.Disk.view _ _ _, omega arith, c.requires)

pub returns-in_err-merge_two : goal.returns-in_err-merge_two
returns-in_err-merge_two g c =
    let view = g.D.Disk.view in
    let i = c.loop.invariant in
    let number = i.1 in
    let p = err_from_is_err_and c.from_residual.result c.from_residual.ensures.1 in
    let more : c.args.most < segments_of c.loop.store = omega (arith, number, c.loop-test.true, c.saturating_sub-end.ensures, c.segments.ensures) in
    rw (p.1, p.2) (halted view c.args.most _ _ c.in_err-merge_two.field-0.0 (stopped_so view c.args.most c.args.store.now _ _ _ _ i.0 (c.in_err-merge_two.ensures.progress c.args.most c.args.store.now more)))

pub loop-preserved : goal.loop-preserved
loop-preserved g c =
    let view = g.D.Disk.view in
    let i = c.loop.invariant in
    let number = i.1 in
    let m = c.in_ok-merge_two.ensures in
    let less = m.merged.0 in
    let more : c.args.most < segments_of c.loop.store = omega (arith, number, c.loop-test.true, c.saturating_sub-end.ensures, c.segments.ensures) in
    (have_both view _ _ _ _ _ i.0 (m.progress c.args.most c.args.store.now more), omega (arith, number, less), m.merged.1)

pub returns-in_err-trim : goal.returns-in_err-trim
returns-in_err-trim g c =
    let view = g.D.Disk.view in
    let i = c.loop.invariant in
    let e = c.in_err-trim.ensures in
    let refusal = c.in_err-trim.field-0.0 in
    let p = err_from_is_err_and c.from_residual-in_err-trim.result c.from_residual-in_err-trim.ensures.1 in
    let number = i.1 in
    let few : segments_of c.loop.store ≡ min (segments_of c.args.store.now) c.args.most = omega (arith, number, c.loop-test.false, c.loop.auto.counter-end, c.saturating_sub-end.ensures, c.segments.ensures) in
    let made = trim_call view (Err refusal) c.loop.store c.trim.new.self e.answer (e.now, e.meters.counts) e.crash in
    rw (p.1, p.2) (not_trimmed_to view c.args.most _ _ _ refusal i.0 few i.2 made)

pub returns : goal.returns
returns g c =
    let view = g.D.Disk.view in
    let i = c.loop.invariant in
    let e = c.in_ok-trim.ensures in
    let bytes = c.in_ok-trim.field-0 in
    let number = i.1 in
    let few : segments_of c.loop.store ≡ min (segments_of c.args.store.now) c.args.most = omega (arith, number, c.loop-test.false, c.loop.auto.counter-end, c.saturating_sub-end.ensures, c.segments.ensures) in
    let made = trim_call view (Ok bytes) c.loop.store c.trim.new.self e.answer (e.now, e.meters.counts) e.crash in
    trimmed_to view c.args.most bytes _ _ _ i.0 few i.2 made
