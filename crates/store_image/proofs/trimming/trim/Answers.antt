use Rattle.store_image.proofs.Trimmed.{untrimmed, failed_run, unsynced_run, synced_run, for_history, still_on_disk, failed_cut, failed_sync, both_made, now_trimmed}
use Rattle.store_image.proofs.trimming.trim.Goals as goal

pub returns-in_err-now-clause-any_moment : goal.returns-in_err-now-clause-any_moment
returns-in_err-now-clause-any_moment g c honest slot d lists on ends = for_history _ _ slot d lists c.args.len c.requires ends on (untrimmed _ _ slot d lists c.args.len c.requires ends on (c.len.ensures.moments honest))

pub returns-then-now-len-clause-any_moment : goal.returns-then-now-len-clause-any_moment
returns-then-now-len-clause-any_moment g c honest slot d lists on ends = for_history _ _ slot d lists c.args.len c.requires ends on (untrimmed _ _ slot d lists c.args.len c.requires ends on (c.len.ensures.moments honest))

pub returns-in_err-cut-clause-any_moment : goal.returns-in_err-cut-clause-any_moment
returns-in_err-cut-clause-any_moment g c honest slot d lists on ends =
    let now = g.met.D.Disk.now_is_image c.args.disk.now honest in
    let same = c.len.ensures.moments honest in
    let still = c.len.ensures.meters.honesty.0 honest in
    for_history _ _ slot d lists c.args.len c.requires ends on (failed_run _ _ slot d lists c.args.len c.requires ends on now (failed_cut _ _ _ c.args.len same (c.in_err-cut.ensures.failed still)))

pub returns-in_err-cut-clause-on_disk : goal.returns-in_err-cut-clause-on_disk
returns-in_err-cut-clause-on_disk g c honest slot d lists on ends =
    let now = g.met.D.Disk.now_is_image c.args.disk.now honest in
    let same = c.len.ensures.moments honest in
    let still = c.len.ensures.meters.honesty.0 honest in
    still_on_disk _ _ slot d lists c.args.len c.requires ends on (failed_run _ _ slot d lists c.args.len c.requires ends on now (failed_cut _ _ _ c.args.len same (c.in_err-cut.ensures.failed still)))

pub returns-in_err-sync-clause-any_moment : goal.returns-in_err-sync-clause-any_moment
returns-in_err-sync-clause-any_moment g c honest slot d lists on ends =
    let now = g.met.D.Disk.now_is_image c.args.disk.now honest in
    let same = c.len.ensures.moments honest in
    let still = c.len.ensures.meters.honesty.0 honest in
    for_history _ _ slot d lists c.args.len c.requires ends on (unsynced_run _ _ slot d lists c.args.len c.requires ends on now (failed_sync _ _ _ _ c.args.len same (c.in_ok-cut.ensures.made still) (c.in_err-sync.ensures.failed (c.cut.ensures.meters.honesty.0 still))))

pub returns-in_err-sync-clause-on_disk : goal.returns-in_err-sync-clause-on_disk
returns-in_err-sync-clause-on_disk g c honest slot d lists on ends =
    let now = g.met.D.Disk.now_is_image c.args.disk.now honest in
    let same = c.len.ensures.moments honest in
    let still = c.len.ensures.meters.honesty.0 honest in
    still_on_disk _ _ slot d lists c.args.len c.requires ends on (unsynced_run _ _ slot d lists c.args.len c.requires ends on now (failed_sync _ _ _ _ c.args.len same (c.in_ok-cut.ensures.made still) (c.in_err-sync.ensures.failed (c.cut.ensures.meters.honesty.0 still))))

pub returns-clause-now : goal.returns-clause-now
returns-clause-now g c honest =
    let same = c.len.ensures.moments honest in
    let still = c.len.ensures.meters.honesty.0 honest in
    now_trimmed _ _ c.args.len (both_made _ _ _ _ c.args.len same (c.in_ok-cut.ensures.made still) (c.in_ok-sync.ensures.made (c.cut.ensures.meters.honesty.0 still)))

pub returns-clause-any_moment : goal.returns-clause-any_moment
returns-clause-any_moment g c honest slot d lists on ends =
    let now = g.met.D.Disk.now_is_image c.args.disk.now honest in
    let same = c.len.ensures.moments honest in
    let still = c.len.ensures.meters.honesty.0 honest in
    for_history _ _ slot d lists c.args.len c.requires ends on (synced_run _ _ slot d lists c.args.len c.requires ends on now (both_made _ _ _ _ c.args.len same (c.in_ok-cut.ensures.made still) (c.in_ok-sync.ensures.made (c.cut.ensures.meters.honesty.0 still))))

pub returns-clause-on_disk : goal.returns-clause-on_disk
returns-clause-on_disk g c honest slot d lists on ends =
    let now = g.met.D.Disk.now_is_image c.args.disk.now honest in
    let same = c.len.ensures.moments honest in
    let still = c.len.ensures.meters.honesty.0 honest in
    still_on_disk _ _ slot d lists c.args.len c.requires ends on (synced_run _ _ slot d lists c.args.len c.requires ends on now (both_made _ _ _ _ c.args.len same (c.in_ok-cut.ensures.made still) (c.in_ok-sync.ensures.made (c.cut.ensures.meters.honesty.0 still))))
