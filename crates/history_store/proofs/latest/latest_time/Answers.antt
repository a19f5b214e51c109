use Rattle.history_store.proofs.LatestTimes.{latest_list}
use Rattle.history_store.proofs.latest.latest_time.Goals as goal

pub loop-i-preserved : goal.loop-i-preserved
loop-i-preserved c =
    rw c.later-latest.ensures (latest_list c.args.index.now c.loop-i.i c.list.result.now c.loop-i.latest c.latest_of.result c.list.ensures c.loop-i.invariant c.latest_of.ensures)
