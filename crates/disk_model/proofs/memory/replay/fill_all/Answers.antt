use Rattle.disk_model.proofs.memory.replay.fill_all.Goals as goal
use Rattle.disk_model.proofs.Filled.{filled_none, filled_more}

pub loop-range-init : goal.loop-range-init
loop-range-init c = filled_none c.args.byte c.args.image.now c.args.ranges.now

pub loop-range-preserved : goal.loop-range-preserved
loop-range-preserved c =
    filled_more c.args.ranges.now c.loop-range.range-index (0, 0) c.args.byte c.args.image.now c.loop-range.image c.fill_range.new.image c.loop-range-test.true c.loop-range.auto.image c.loop-range.invariant
    c.fill_range.ensures.inside c.fill_range.ensures.outside
