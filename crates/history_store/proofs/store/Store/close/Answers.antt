use Rattle.history_store.proofs.Held.{held_stands}
use Rattle.history_store.proofs.store.Store.close.Goals as goal

pub returns-clause-stands : goal.returns-clause-stands
returns-clause-stands g c = rw (← c.self.view_is) (λ honest still. held_stands _ _ _ _ _ _ _ c.self.invariant.0 honest still)
