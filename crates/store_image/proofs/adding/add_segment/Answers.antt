use Rattle.std.proofs.Common.{◌≤◌, ◌+◌, ◌++◌, ◌∷◌, [], ap, ◌*◌, length, arith}
use Rattle.std.proofs.lemmas.Result.{err_from_is_err_and}
use Rattle.disk_model.proofs.MomentSteps.{joined}
use Rattle.blocks.specs.Calls.{call_count}
use Rattle.blocks.specs.Slots.{other, slot_range}
use Rattle.blocks.proofs.Counted.{at_most, counts_on}
use Rattle.store_image.proofs.Added.{added_is_next, old_stays, still_on_disk, all_held, add_elsewhere, written_inside, published_inside}
use Rattle.store_image.proofs.adding.add_segment.Goals as goal

pub returns-in_err-write_and_sync-clause-any_moment : goal.returns-in_err-write_and_sync-clause-any_moment
returns-in_err-write_and_sync-clause-any_moment g c honest d lists rows on added same =
    old_stays _ _ c.args.slot d c.args.next.now lists c.args.entry rows _ c.args.bytes.now c.requires.entry c.requires.bytes (ap (λ n. 4096 * n) c.from.ensures) on added same (g.met.D.Disk.now_is_image c.args.disk.now honest) (c.write_and_sync.ensures.any_moment honest)

pub returns-clause-any_moment : goal.returns-clause-any_moment
returns-clause-any_moment g c honest d lists rows on added same =
    let now = g.met.D.Disk.now_is_image c.args.disk.now honest in
    let wrote = c.write_and_sync.ensures.any_moment honest in
    let place = ap (λ n. 4096 * n) c.from.ensures in
    let still = c.write_and_sync.ensures.meters.honesty.0 honest in
    let first = old_stays _ _ c.args.slot d c.args.next.now lists c.args.entry rows _ c.args.bytes.now c.requires.entry c.requires.bytes place on added same now wrote in
    let on_mid = still_on_disk _ _ c.args.slot d c.args.next.now lists c.args.entry rows _ c.args.bytes.now c.requires.entry c.requires.bytes place on added same now wrote in
    let held = all_held _ _ c.args.slot d c.args.next.now lists c.args.entry rows _ c.args.bytes.now c.requires.entry c.requires.bytes place on added same now wrote (c.in_ok-write_and_sync.ensures.on_disk honest) in
    joined _ _ _ _ first (c.publish_directory.ensures.any_moment still d lists (lists ++ rows ∷ []) on_mid (added_is_next d c.args.next.now lists c.args.entry rows on.1.kept on.1.sums added) held)

pub returns-clause-on_disk : goal.returns-clause-on_disk
returns-clause-on_disk g c honest d lists rows on added same =
    let now = g.met.D.Disk.now_is_image c.args.disk.now honest in
    let wrote = c.write_and_sync.ensures.any_moment honest in
    let place = ap (λ n. 4096 * n) c.from.ensures in
    let on_mid = still_on_disk _ _ c.args.slot d c.args.next.now lists c.args.entry rows _ c.args.bytes.now c.requires.entry c.requires.bytes place on added same now wrote in
    let held = all_held _ _ c.args.slot d c.args.next.now lists c.args.entry rows _ c.args.bytes.now c.requires.entry c.requires.bytes place on added same now wrote (c.in_ok-write_and_sync.ensures.on_disk honest) in
    c.publish_directory.ensures.on_disk (c.write_and_sync.ensures.meters.honesty.0 honest) d lists (lists ++ rows ∷ []) on_mid (added_is_next d c.args.next.now lists c.args.entry rows on.1.kept on.1.sums added) held

pub returns-clause-elsewhere : goal.returns-clause-elsewhere
returns-clause-elsewhere g c honest =
    add_elsewhere c.publish_directory.result c.args.entry _ _ (length c.args.bytes.now) _ _ _ (ap (λ n. 4096 * n) c.from.ensures) c.requires.bytes (c.in_ok-write_and_sync.ensures.elsewhere honest) (c.publish_directory.ensures.elsewhere (c.write_and_sync.ensures.meters.honesty.0 honest))

pub returns-in_err-write_and_sync-clause-inside : goal.returns-in_err-write_and_sync-clause-inside
returns-in_err-write_and_sync-clause-inside g c honest =
    written_inside _ _ c.args.entry _ c.args.bytes.now c.requires.bytes (ap (λ n. 4096 * n) c.from.ensures) (g.met.D.Disk.now_is_image c.args.disk.now honest) (c.write_and_sync.ensures.any_moment honest) (slot_range (other c.args.slot))

pub returns-clause-inside : goal.returns-clause-inside
returns-clause-inside g c honest =
    published_inside _ _ c.args.entry _ c.args.bytes.now c.requires.bytes (ap (λ n. 4096 * n) c.from.ensures) (g.met.D.Disk.now_is_image c.args.disk.now honest) (c.write_and_sync.ensures.any_moment honest) (slot_range (other c.args.slot)) _
    (c.publish_directory.ensures.inside (c.write_and_sync.ensures.meters.honesty.0 honest))

pub returns-in_err-write_and_sync-clause-calls : goal.returns-in_err-write_and_sync-clause-calls
returns-in_err-write_and_sync-clause-calls g c honest =
    let old = (g.D.Disk.view c.args.disk.now).moments in
    let new = (g.D.Disk.view c.write_and_sync.new.disk).moments in
    let few : call_count new ≤ call_count old + 2 = at_most c.write_and_sync.result 2 old new (c.write_and_sync.ensures.calls honest) in
    let p = err_from_is_err_and c.from_residual.result c.from_residual.ensures.1 in rw p.1 (omega (arith, few))

pub returns-clause-calls : goal.returns-clause-calls
returns-clause-calls g c honest =
    let old = (g.D.Disk.view c.args.disk.now).moments in
    let mid = (g.D.Disk.view c.write_and_sync.new.disk).moments in
    counts_on c.publish_directory.result 2 6 old mid (g.D.Disk.view c.publish_directory.new.disk).moments (c.in_ok-write_and_sync.ensures.calls honest) (c.publish_directory.ensures.calls (c.write_and_sync.ensures.meters.honesty.0 honest))
