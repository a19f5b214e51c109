use Rattle.std.proofs.Common.{refl, ◌∙◌, arith}
use Rattle.store_copy.proofs.Planned.{first_more, too_large}
use Rattle.store_copy.proofs.planning.check_room.Goals as goal

pub returns-then-end-from-clause-refused : goal.returns-then-end-from-clause-refused
returns-then-end-from-clause-refused c =
    let inv = c.loop-segment.invariant in
    let large = c.if-end-from.true in
    (refl, too_large c.args.imports c.args.segments.now c.loop-segment.segment-index c.segment-item.result c.loop-segment-test.true c.segment-item.is c.loop-segment.first c.size_up_to-bytes.result.bytes inv.first c.size_up_to-bytes.ensures.bytes (omega (arith, large, c.from.ensures, c.end-end.ensures.end)))

pub loop-segment-preserved : goal.loop-segment-preserved
loop-segment-preserved c =
    let inv = c.loop-segment.invariant in
    let fits = c.if-end-from.false in
    record {
      first = c.end-end.ensures.end ∙ first_more c.args.imports c.args.segments.now c.loop-segment.segment-index c.segment-item.result c.loop-segment-test.true c.segment-item.is c.loop-segment.first c.size_up_to-bytes.result.bytes inv.first c.size_up_to-bytes.ensures.bytes;
      fits = omega (arith, fits, c.from.ensures);
    }
