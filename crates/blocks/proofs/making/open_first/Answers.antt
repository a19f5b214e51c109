use Rattle.std.proofs.lemmas.Result.{on_ok_weaker}
use Rattle.disk_model.proofs.MomentSteps.{joined}
use Rattle.blocks.proofs.Shut.{FirstOrNone, sync_run, content_run, gate_run, first_opened}
use Rattle.blocks.proofs.making.open_first.Goals as goal

pub returns-in_err-sync-clause-any_moment : goal.returns-in_err-sync-clause-any_moment
returns-in_err-sync-clause-any_moment g c = λ honest each long.
    sync_run c.sync.result c.args.content.now (g.D.Disk.view c.args.disk.now).moments (g.D.Disk.view c.sync.new.self).moments each (g.met.D.Disk.now_is_image c.args.disk.now honest) (c.sync.ensures.made honest) (c.sync.ensures.failed honest)

pub returns-in_err-write_and_sync-clause-any_moment : goal.returns-in_err-write_and_sync-clause-any_moment
returns-in_err-write_and_sync-clause-any_moment g c = λ honest each long.
    let content = c.args.content.now in
    let old = (g.D.Disk.view c.args.disk.now).moments in
    let m1 = (g.D.Disk.view c.sync.new.self).moments in
    let m2 = (g.D.Disk.view c.write_and_sync.new.disk).moments in
    let now = g.met.D.Disk.now_is_image c.args.disk.now honest in
    let still = c.sync.ensures.meters.honesty.0 honest in
    joined old m1 m2 (FirstOrNone content old.state.now) (sync_run c.sync.result content old m1 each now (c.sync.ensures.made honest) (c.sync.ensures.failed honest))
    (content_run content c.told-content old m1 each long now (c.in_ok-sync.ensures.made honest) (g.met.D.Disk.now_is_image c.sync.new.self still) m2 c.content.result c.content.ensures (c.write_and_sync.ensures.any_moment still))

pub returns-clause-any_moment : goal.returns-clause-any_moment
returns-clause-any_moment g c = λ honest each long.
    let content = c.args.content.now in
    let old = (g.D.Disk.view c.args.disk.now).moments in
    let m1 = (g.D.Disk.view c.sync.new.self).moments in
    let m2 = (g.D.Disk.view c.write_and_sync.new.disk).moments in
    let m3 = (g.D.Disk.view c.write_and_sync-2.new.disk).moments in
    let now = g.met.D.Disk.now_is_image c.args.disk.now honest in
    let still = c.sync.ensures.meters.honesty.0 honest in
    let on = c.write_and_sync.ensures.meters.honesty.0 still in
    let there = g.met.D.Disk.now_is_image c.sync.new.self still in
    joined old m2 m3 (FirstOrNone content old.state.now)
    (joined old m1 m2 (FirstOrNone content old.state.now) (sync_run c.sync.result content old m1 each now (c.sync.ensures.made honest) (c.sync.ensures.failed honest))
    (content_run content c.told-content old m1 each long now (c.in_ok-sync.ensures.made honest) there m2 c.content.result c.content.ensures (c.write_and_sync.ensures.any_moment still)))
    (gate_run content c.told-content old m1 each long now (c.in_ok-sync.ensures.made honest) there m2 c.content.result c.content.ensures (c.in_ok-write_and_sync.ensures.on_disk still) m3 c.gate.result c.gate.ensures (g.met.D.Disk.now_is_image c.write_and_sync.new.disk on) (c.write_and_sync-2.ensures.any_moment on))

pub returns-clause-opened : goal.returns-clause-opened
returns-clause-opened g c = λ honest each long.
    let content = c.args.content.now in
    let old = (g.D.Disk.view c.args.disk.now).moments in
    let m1 = (g.D.Disk.view c.sync.new.self).moments in
    let m2 = (g.D.Disk.view c.write_and_sync.new.disk).moments in
    let m3 = (g.D.Disk.view c.write_and_sync-2.new.disk).moments in
    let now = g.met.D.Disk.now_is_image c.args.disk.now honest in
    let still = c.sync.ensures.meters.honesty.0 honest in
    let on = c.write_and_sync.ensures.meters.honesty.0 still in
    on_ok_weaker c.write_and_sync-2.result
    (λ there. first_opened content c.told-content old m1 each long now (c.in_ok-sync.ensures.made honest) (g.met.D.Disk.now_is_image c.sync.new.self still) m2 c.content.result c.content.ensures (c.in_ok-write_and_sync.ensures.on_disk still) m3 c.gate.result c.gate.ensures (g.met.D.Disk.now_is_image c.write_and_sync.new.disk on) there)
    (c.write_and_sync-2.ensures.on_disk on)
