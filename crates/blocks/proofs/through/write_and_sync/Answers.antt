use Rattle.std.proofs.Common.{◌⊎◌, inl, inr, List, ℕ}
use Rattle.disk_model.specs.Disk.{IsImage, after_write, settled}
use Rattle.disk_model.proofs.MomentSteps.{started, changed, synced}
use Rattle.blocks.proofs.Counted.{one_more, sync_counts, counts_on}
use Rattle.blocks.proofs.Elsewhere.{through_elsewhere}
use Rattle.blocks.proofs.through.write_and_sync.Goals as goal

pub returns-in_err-write_at-clause-any_moment : goal.returns-in_err-write_at-clause-any_moment
returns-in_err-write_at-clause-any_moment g c honest =
    let old = (g.D.Disk.view c.args.disk.now).moments in
    let made = after_write old.state c.args.at c.args.bytes.now in
    let P : List ℕ → Type 0 = λ f. IsImage old.state f ⊎ IsImage made f in
    changed old old _ P made _ (started old P (λ f image. inl image)) (c.write_at.ensures.made honest) (c.write_at.ensures.failed honest) (λ f image. inr image)

pub returns-clause-any_moment : goal.returns-clause-any_moment
returns-clause-any_moment g c honest =
    let old = (g.D.Disk.view c.args.disk.now).moments in
    let made = after_write old.state c.args.at c.args.bytes.now in
    let P : List ℕ → Type 0 = λ f. IsImage old.state f ⊎ IsImage made f in
    let still = c.write_at.ensures.meters.honesty.0 honest in
    let wrote = changed old old _ P made _ (started old P (λ f image. inl image)) (c.write_at.ensures.made honest) (c.write_at.ensures.failed honest) (λ f image. inr image) in
    synced old _ _ P _ wrote (g.met.D.Disk.now_is_image c.write_at.new.self still) (c.sync.ensures.made still) (c.sync.ensures.failed still)

pub returns-clause-elsewhere : goal.returns-clause-elsewhere
returns-clause-elsewhere g c honest =
    through_elsewhere c.sync.result (g.D.Disk.view c.args.disk.now).moments _ (g.D.Disk.view c.sync.new.self).moments c.args.at c.args.bytes.now (c.in_ok-write_at.ensures.made honest) (c.sync.ensures.made (c.write_at.ensures.meters.honesty.0 honest))

pub returns-clause-calls : goal.returns-clause-calls
returns-clause-calls g c honest =
    let old = (g.D.Disk.view c.args.disk.now).moments in
    let mid = (g.D.Disk.view c.write_at.new.self).moments in
    let new = (g.D.Disk.view c.sync.new.self).moments in
    let still = c.write_at.ensures.meters.honesty.0 honest in
    counts_on c.sync.result 1 1 old mid new (one_more old mid (after_write old.state c.args.at c.args.bytes.now) (c.in_ok-write_at.ensures.made honest))
    (sync_counts c.sync.result mid new (settled mid.state.now) (c.sync.ensures.made still) (c.sync.ensures.failed still))
