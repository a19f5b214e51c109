use Rattle.std.proofs.Common.{[], ◌∷◌, arith, length}
use Rattle.blocks.proofs.Elsewhere.{settled_now}
use Rattle.blocks.proofs.Made.{fresh_images, fresh_elsewhere}
use Rattle.blocks.proofs.Within.{within_through}
use Rattle.blocks.proofs.making.format_slots.Goals as goal

pub returns-in_err-write_and_sync-clause-any_moment : goal.returns-in_err-write_and_sync-clause-any_moment
returns-in_err-write_and_sync-clause-any_moment g c honest =
    let cleared = c.clear_slots.ensures.meters.honesty.0 honest in
    within_through _ _ _ 0 16384 c.content.result c.args.content.now (c.clear_slots.ensures.any_moment honest) (g.met.D.Disk.now_is_image c.clear_slots.new.disk cleared) (omega arith) (omega (arith, c.content.ensures, c.told-content)) (c.write_and_sync.ensures.any_moment cleared)

pub returns-in_err-write_and_sync-2-clause-any_moment : goal.returns-in_err-write_and_sync-2-clause-any_moment
returns-in_err-write_and_sync-2-clause-any_moment g c honest =
    let cleared = c.clear_slots.ensures.meters.honesty.0 honest in
    let filled = c.write_and_sync.ensures.meters.honesty.0 cleared in
    let so_far = within_through _ _ _ 0 16384 c.content.result c.args.content.now (c.clear_slots.ensures.any_moment honest) (g.met.D.Disk.now_is_image c.clear_slots.new.disk cleared) (omega arith) (omega (arith, c.content.ensures, c.told-content)) (c.write_and_sync.ensures.any_moment cleared) in
    within_through _ _ _ 0 16384 c.gate.result (165 ∷ []) so_far (g.met.D.Disk.now_is_image c.write_and_sync.new.disk filled) (omega arith) (omega (arith, c.gate.ensures)) (c.write_and_sync-2.ensures.any_moment filled)

pub returns-clause-any_moment : goal.returns-clause-any_moment
returns-clause-any_moment g c honest =
    let cleared = c.clear_slots.ensures.meters.honesty.0 honest in
    let filled = c.write_and_sync.ensures.meters.honesty.0 cleared in
    let so_far = within_through _ _ _ 0 16384 c.content.result c.args.content.now (c.clear_slots.ensures.any_moment honest) (g.met.D.Disk.now_is_image c.clear_slots.new.disk cleared) (omega arith) (omega (arith, c.content.ensures, c.told-content)) (c.write_and_sync.ensures.any_moment cleared) in
    within_through _ _ _ 0 16384 c.gate.result (165 ∷ []) so_far (g.met.D.Disk.now_is_image c.write_and_sync.new.disk filled) (omega arith) (omega (arith, c.gate.ensures)) (c.write_and_sync-2.ensures.any_moment filled)

pub returns-clause-fresh : goal.returns-clause-fresh
returns-clause-fresh g c honest =
    let cleared = c.clear_slots.ensures.meters.honesty.0 honest in
    let filled = c.write_and_sync.ensures.meters.honesty.0 cleared in
    fresh_images _ _ _ c.args.content.now c.content.result c.gate.result c.content.ensures c.gate.ensures (c.in_ok-clear_slots.ensures.zeros honest) c.told-content c.requires (c.in_ok-write_and_sync.ensures.on_disk cleared) (c.in_ok-write_and_sync-2.ensures.on_disk filled)

pub returns-clause-on_disk : goal.returns-clause-on_disk
returns-clause-on_disk g c honest =
    let filled = c.write_and_sync.ensures.meters.honesty.0 (c.clear_slots.ensures.meters.honesty.0 honest) in settled_now _ _ (c.in_ok-write_and_sync-2.ensures.on_disk filled)

pub returns-clause-elsewhere : goal.returns-clause-elsewhere
returns-clause-elsewhere g c honest =
    let cleared = c.clear_slots.ensures.meters.honesty.0 honest in
    let filled = c.write_and_sync.ensures.meters.honesty.0 cleared in
    fresh_elsewhere _ _ _ _ c.content.result c.gate.result (length c.args.content.now) c.content.ensures c.gate.ensures c.told-content (c.in_ok-clear_slots.ensures.elsewhere honest) (c.in_ok-write_and_sync.ensures.elsewhere cleared) (c.in_ok-write_and_sync-2.ensures.elsewhere filled)
