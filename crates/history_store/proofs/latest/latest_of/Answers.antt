use Rattle.history_store.specs.Private.{place_time}
use Rattle.history_store.proofs.LatestTimes.{latest_more}
use Rattle.history_store.proofs.latest.latest_of.Goals as goal

pub loop-place-preserved : goal.loop-place-preserved
loop-place-preserved c =
    let p = c.place-item.result in
    rw c.later-latest.ensures (latest_more place_time c.args.places.now c.loop-place.place-index p p c.loop-place.latest c.loop-place-test.true c.place-item.is c.loop-place.invariant)
