use Rattle.std.proofs.Common.{refl}
use Rattle.history_store.proofs.Held.{lent_sound}
use Rattle.history_store.proofs.store.Store.import_of.Goals as goal

pub returns : goal.returns
returns g c =
    let sound = lent_sound _ _ _ _ _ _ _ c.self.invariant.0 c.places.result.now c.self.inside.index.lists c.imports-pin.result c.places.ensures refl c.imports-pin.ensures in
    rw (← c.self.view_is) (c.import_of.ensures c.self.inside.index.lists sound.0 sound.1)
