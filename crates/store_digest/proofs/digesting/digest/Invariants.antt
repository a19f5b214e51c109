use Rattle.std.proofs.Common.{length}
use Rattle.std.specs.List.{filter}
use Rattle.history_model.specs.KeyOrder.{is_after}
use Rattle.store_digest.proofs.Digested.{IsDigesting, shown_of}
use Rattle.store_digest.proofs.digesting.digest.Given as goal

abbrev pub invariant-rows : goal.invariant-rows
invariant-rows g l =
    let d = g.D.Disk in
    IsDigesting d.view l.pin l.fn.store l.store l.hasher l.last

abbrev pub decreases-rows : goal.decreases-rows
decreases-rows g l = length (filter (is_after l.last) (shown_of l.pin l.fn.store))
