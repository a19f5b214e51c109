use Rattle.std.proofs.Common.{ap, ◌∙◌}
use Rattle.history_store.specs.Catalog.{blocks_in_use}
use Rattle.history_store.proofs.store.Store.blocks_in_use.Goals as goal

pub returns : goal.returns
returns g c =
    rw (← c.self.view_is) (c.blocks_in_use.ensures ∙ ap blocks_in_use c.entries.ensures.entries)
