use Rattle.std.proofs.Common.{subst}
use Rattle.history_model.specs.InOrder.{joined}
use Rattle.history_store.specs.Private.{IsLatest, place_time}
use Rattle.history_store.proofs.LatestTimes.{latest_rows}
use Rattle.history_store.proofs.store.Store.latest_time.Goals as goal

pub returns : goal.returns
returns g c =
    rw (← c.self.view_is) (latest_rows c.self.inside.index.lists c.latest_time.result c.self.invariant.0.kept.apart
    (subst (λ ps. IsLatest place_time c.latest_time.result (joined ps)) c.places.ensures c.latest_time.ensures))
