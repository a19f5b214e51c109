use Rattle.std.proofs.Common.{ap, ◌∙◌}
use Rattle.std.specs.Prelude.{sum_by}
use Rattle.directory.specs.declared.entry.Entry.{Entry}
use Rattle.history_store.proofs.Counted.{rows_counted}
use Rattle.history_store.proofs.store.Store.row_count.Goals as goal

pub returns : goal.returns
returns g c =
    rw (← c.self.view_is) (c.row_count.ensures ∙ ap (sum_by (λ (e : Entry). e.rows)) c.entries.ensures.entries ∙ rows_counted c.self.inside.directory.entries c.self.inside.index.lists c.self.invariant.0.kept.segments c.self.invariant.0.kept.apart)
