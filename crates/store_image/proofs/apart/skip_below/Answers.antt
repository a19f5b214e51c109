use Rattle.store_image.proofs.KeysOnce.{one_skipped}
use Rattle.store_image.proofs.apart.skip_below.Goals as goal

pub loop-first-preserved : goal.loop-first-preserved
loop-first-preserved c =
    one_skipped c.args.key.now c.args.places.now c.loop-first.left.now c.in-Some.behind.now c.in-Some.first.now c.loop-first.invariant c.in-Some.ensures.cases.0 (c.is_below.ensures.0 c.if-not-is_below.false)
