use Rattle.std.proofs.Common.{refl, ◌∙◌}
use Rattle.segment.specs.declared.place.RowPlace.{RowPlace}
use Rattle.as_of_index.proofs.Changed.{greatest_more, max_is}
use Rattle.as_of_index.proofs.place_list.last_time.Goals as goal

pub loop-p-preserved : goal.loop-p-preserved
loop-p-preserved c =
    let more = greatest_more (λ (p : RowPlace). p.key.time) c.args.places.now c.loop-p.p-index c.p-item.result c.loop-p-test.true c.p-item.is in
    rw (c.max-last.ensures ∙ max_is c.loop-p.last c.time_of.result, c.time_of.ensures, c.loop-p.invariant, more) refl
