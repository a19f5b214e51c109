use Rattle.std.proofs.Common.{take}
use Rattle.history_model.specs.Private.{Adds}
use Rattle.links.specs.Private.{AreSeen}
use Rattle.links.proofs.reaching.add_new.Given as goal

abbrev pub invariant-loop-id : goal.invariant-loop-id
invariant-loop-id l = record {
  adds : Adds (take l.id-index l.ids) l.initial.found.items l.found.items;
  seen : AreSeen l.seen l.found.items;
}
