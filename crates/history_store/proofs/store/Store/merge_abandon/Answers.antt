use Rattle.std.proofs.Common.{subst, sym, ap}
use Rattle.store_image.specs.Kept.{history_of}
use Rattle.segment_index.specs.Indexed.{StoreRows}
use Rattle.history_store.specs.MergeInProgress.{HasSameWords}
use Rattle.history_store.specs.Catalog.{catalog_of}
use Rattle.history_store.specs.MergeInProgress.{merge_of}
use Rattle.history_store.proofs.Held.{held_stands}
use Rattle.history_store.proofs.GoingOn.{no_merge}
use Rattle.history_store.proofs.store.Store.merge_abandon.Goals as goal

pub invariant_of-self : goal.invariant_of-self
invariant_of-self g c = (c.self.invariant.0, no_merge _ _ _ _ _ _ c.take.ensures.after, subst (λ o. HasSameWords c.self.inside.index.words o) (sym c.take.ensures.after) tt)

pub returns-clause-answer : goal.returns-clause-answer
returns-clause-answer g c =
    rw (← c.self.view_is) ((_, ap merge_of (sym c.in-Some.ensures.value)), ap (λ o. catalog_of c.self.inside.directory (merge_of o)) c.take.ensures.after, record { history = ap (λ (x : StoreRows). history_of c.self.inside.directory x.lists) c.forget_merge.ensures; was_open = c.if-self.false; open_still = c.if-self.false })

pub returns-clause-acknowledged : goal.returns-clause-acknowledged
returns-clause-acknowledged g c =
    rw (← c.self.view_is, c.forget_merge.ensures) (λ honest still. record { open_still = still; each = held_stands _ _ _ _ _ _ _ c.self.invariant.0 honest still })
