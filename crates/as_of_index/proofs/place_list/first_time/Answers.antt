use Rattle.std.proofs.Common.{refl}
use Rattle.segment.specs.declared.place.RowPlace.{RowPlace}
use Rattle.as_of_index.proofs.Shown.{least_more}
use Rattle.as_of_index.proofs.place_list.first_time.Goals as goal

pub loop-p-preserved : goal.loop-p-preserved
loop-p-preserved c =
    let more = least_more (λ (p : RowPlace). p.key.time) c.args.places.now c.loop-p.p-index c.p-item.result c.loop-p-test.true c.p-item.is in
    rw (c.min-first.ensures, c.time_of.ensures, c.loop-p.invariant, more) refl
