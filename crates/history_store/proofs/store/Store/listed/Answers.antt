use Rattle.history_store.proofs.Held.{held_stands}
use Rattle.history_store.proofs.store.Store.listed.Goals as goal
use Rattle.history_store.proofs.store.Store.listed.Goals.{then-matches, else-matches}

pub returns-after-matches-clause-acknowledged : goal.returns-after-matches-clause-acknowledged
returns-after-matches-clause-acknowledged g c =
    elim c.if-matches.branch [
      | then-matches w ↦ rw w.self-is (λ honest still. absurd (cc))
      | else-matches w ↦ rw (w.self-is, ← c.self.view_is) (λ honest still. record { open_still = still; each = held_stands _ _ _ _ _ _ _ c.self.invariant.0 honest still })
    ]
