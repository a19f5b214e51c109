use Rattle.std.proofs.Common.{◌≤◌, ◌+◌, arith}
use Rattle.std.proofs.lemmas.Result.{err_from_is_err_and}
use Rattle.disk_model.specs.Disk.{settled}
use Rattle.disk_model.proofs.MomentSteps.{joined}
use Rattle.blocks.specs.Calls.{call_count}
use Rattle.blocks.proofs.Counted.{one_more, sync_counts, at_most, counts_on}
use Rattle.blocks.specs.Slots.{other, slot_range}
use Rattle.store_image.specs.Images.{RepresentsAs}
use Rattle.store_image.specs.Kept.{history_of, pieces_of}
use Rattle.store_image.proofs.Unlisted.{synced_moments, synced_on_disk, synced_held, slot_synced, slot_published, slot_elsewhere}
use Rattle.store_image.proofs.ahead.sync_and_publish.Goals as goal

pub returns-in_err-sync-clause-any_moment : goal.returns-in_err-sync-clause-any_moment
returns-in_err-sync-clause-any_moment g c honest d lists others on next held =
    synced_moments _ _ c.args.slot d lists on (g.met.D.Disk.now_is_image c.args.disk.now honest) c.sync.result (RepresentsAs c.args.next.now.layout (history_of c.args.next.now others)) (c.sync.ensures.made honest) (c.sync.ensures.failed honest)

pub returns-clause-any_moment : goal.returns-clause-any_moment
returns-clause-any_moment g c honest d lists others on next held =
    let now = g.met.D.Disk.now_is_image c.args.disk.now honest in
    let still = c.sync.ensures.meters.honesty.0 honest in
    let made = c.in_ok-sync.ensures.made honest in
    joined _ _ _ _
    (synced_moments _ _ c.args.slot d lists on now c.sync.result (RepresentsAs c.args.next.now.layout (history_of c.args.next.now others)) (c.sync.ensures.made honest) (c.sync.ensures.failed honest))
    (c.publish_directory.ensures.any_moment still d lists others (synced_on_disk _ _ c.args.slot d lists on now made) next (synced_held _ _ (pieces_of c.args.next.now.entries others) made held))

pub returns-clause-on_disk : goal.returns-clause-on_disk
returns-clause-on_disk g c honest d lists others on next held =
    let now = g.met.D.Disk.now_is_image c.args.disk.now honest in
    let made = c.in_ok-sync.ensures.made honest in
    c.publish_directory.ensures.on_disk (c.sync.ensures.meters.honesty.0 honest) d lists others (synced_on_disk _ _ c.args.slot d lists on now made) next (synced_held _ _ (pieces_of c.args.next.now.entries others) made held)

pub returns-clause-elsewhere : goal.returns-clause-elsewhere
returns-clause-elsewhere g c honest =
    slot_elsewhere _ _ (slot_range (other c.args.slot)) (c.in_ok-sync.ensures.made honest) c.publish_directory.result _ (c.publish_directory.ensures.elsewhere (c.sync.ensures.meters.honesty.0 honest))

pub returns-in_err-sync-clause-inside : goal.returns-in_err-sync-clause-inside
returns-in_err-sync-clause-inside g c honest =
    slot_synced _ _ (slot_range (other c.args.slot)) c.sync.result (g.met.D.Disk.now_is_image c.args.disk.now honest) (c.sync.ensures.made honest) (c.sync.ensures.failed honest)

pub returns-clause-inside : goal.returns-clause-inside
returns-clause-inside g c honest =
    let now = g.met.D.Disk.now_is_image c.args.disk.now honest in
    joined _ _ _ _
    (slot_synced _ _ (slot_range (other c.args.slot)) c.sync.result now (c.sync.ensures.made honest) (c.sync.ensures.failed honest))
    (slot_published _ _ (slot_range (other c.args.slot)) (c.in_ok-sync.ensures.made honest) _ (c.publish_directory.ensures.inside (c.sync.ensures.meters.honesty.0 honest)))

pub returns-in_err-sync-clause-calls : goal.returns-in_err-sync-clause-calls
returns-in_err-sync-clause-calls g c honest =
    let old = (g.D.Disk.view c.args.disk.now).moments in
    let new = (g.D.Disk.view c.sync.new.self).moments in
    let few : call_count new ≤ call_count old + 1 = at_most c.sync.result 1 old new (sync_counts c.sync.result old new (settled old.state.now) (c.sync.ensures.made honest) (c.sync.ensures.failed honest)) in
    let p = err_from_is_err_and c.from_residual.result c.from_residual.ensures.1 in rw p.1 (omega (arith, few))

pub returns-clause-calls : goal.returns-clause-calls
returns-clause-calls g c honest =
    let old = (g.D.Disk.view c.args.disk.now).moments in
    let mid = (g.D.Disk.view c.sync.new.self).moments in
    counts_on c.publish_directory.result 1 6 old mid (g.D.Disk.view c.publish_directory.new.disk).moments (one_more old mid (settled old.state.now) (c.in_ok-sync.ensures.made honest)) (c.publish_directory.ensures.calls (c.sync.ensures.meters.honesty.0 honest))
