use Rattle.std.proofs.Common.{◌⊎◌, inl, ℕ, List, replicate}
use Rattle.std.proofs.lemmas.List.{length-replicate, get_or-replicate}
use Rattle.disk_model.specs.Disk.{IsImage}
use Rattle.disk_model.proofs.MomentSteps.{started, synced}
use Rattle.blocks.specs.Slots.{HasNoCurrent}
use Rattle.blocks.proofs.Shut.{first_zeros, zeros_shut, last_zeros, last_shut, last_long}
use Rattle.blocks.proofs.making.close_both.Goals as goal

pub returns-in_err-write_and_sync-clause-any_moment : goal.returns-in_err-write_and_sync-clause-any_moment
returns-in_err-write_and_sync-clause-any_moment g c = λ honest none.
    let old = (g.D.Disk.view c.args.disk.now).moments in
    let mid = (g.D.Disk.view c.sync.new.self).moments in
    let still = c.sync.ensures.meters.honesty.0 honest in
    let Leaves : List ℕ → Type 0 = λ f. IsImage old.state f ⊎ HasNoCurrent f in
    let start = synced old old mid Leaves c.sync.result (started old Leaves (λ f image. inl image)) (g.met.D.Disk.now_is_image c.args.disk.now honest) (c.sync.ensures.made honest) (c.sync.ensures.failed honest) in
    first_zeros old mid none (c.in_ok-sync.ensures.made honest) (g.D.Disk.view c.write_and_sync.new.disk).moments (replicate 8193 0) (length-replicate {A = ℕ} 8193 0) (λ i lt. get_or-replicate {A = ℕ} 8193 i 0 0 lt) (IsImage old.state) (g.met.D.Disk.now_is_image c.sync.new.self still) start (c.write_and_sync.ensures.any_moment still)

pub returns-clause-any_moment : goal.returns-clause-any_moment
returns-clause-any_moment g c = λ honest none.
    let old = (g.D.Disk.view c.args.disk.now).moments in
    let mid = (g.D.Disk.view c.sync.new.self).moments in
    let next = (g.D.Disk.view c.write_and_sync.new.disk).moments in
    let still = c.sync.ensures.meters.honesty.0 honest in
    let on = c.write_and_sync.ensures.meters.honesty.0 still in
    let Leaves : List ℕ → Type 0 = λ f. IsImage old.state f ⊎ HasNoCurrent f in
    let start = synced old old mid Leaves c.sync.result (started old Leaves (λ f image. inl image)) (g.met.D.Disk.now_is_image c.args.disk.now honest) (c.sync.ensures.made honest) (c.sync.ensures.failed honest) in
    let so_far = first_zeros old mid none (c.in_ok-sync.ensures.made honest) next (replicate 8193 0) (length-replicate {A = ℕ} 8193 0) (λ i lt. get_or-replicate {A = ℕ} 8193 i 0 0 lt) (IsImage old.state) (g.met.D.Disk.now_is_image c.sync.new.self still) start (c.write_and_sync.ensures.any_moment still) in
    let shut = zeros_shut old mid none (c.in_ok-sync.ensures.made honest) next (replicate 8193 0) (length-replicate {A = ℕ} 8193 0) (λ i lt. get_or-replicate {A = ℕ} 8193 i 0 0 lt) (c.in_ok-write_and_sync.ensures.on_disk still) in
    last_zeros c.write_at.result (IsImage old.state) old next (g.D.Disk.view c.write_at.new.self).moments (replicate 8191 0) so_far (g.met.D.Disk.now_is_image c.write_and_sync.new.disk on) shut (c.write_at.ensures.made on) (c.write_at.ensures.failed on)

pub returns-clause-shut : goal.returns-clause-shut
returns-clause-shut g c = λ honest none.
    let old = (g.D.Disk.view c.args.disk.now).moments in
    let mid = (g.D.Disk.view c.sync.new.self).moments in
    let next = (g.D.Disk.view c.write_and_sync.new.disk).moments in
    let still = c.sync.ensures.meters.honesty.0 honest in
    let on = c.write_and_sync.ensures.meters.honesty.0 still in
    let shut = zeros_shut old mid none (c.in_ok-sync.ensures.made honest) next (replicate 8193 0) (length-replicate {A = ℕ} 8193 0) (λ i lt. get_or-replicate {A = ℕ} 8193 i 0 0 lt) (c.in_ok-write_and_sync.ensures.on_disk still) in
    last_shut c.write_at.result next (g.D.Disk.view c.write_at.new.self).moments (replicate 8191 0) (g.met.D.Disk.now_is_image c.write_and_sync.new.disk on) shut (c.write_at.ensures.made on)

pub returns-clause-long : goal.returns-clause-long
returns-clause-long g c = λ honest none.
    let on = c.write_and_sync.ensures.meters.honesty.0 (c.sync.ensures.meters.honesty.0 honest) in
    last_long c.write_at.result (g.D.Disk.view c.write_and_sync.new.disk).moments (g.D.Disk.view c.write_at.new.self).moments (replicate 8191 0) (length-replicate {A = ℕ} 8191 0) (c.write_at.ensures.made on)
