use Rattle.std.proofs.Common.{ap, arith, length, take}
use Rattle.std.proofs.lemmas.List.{length-append}
use Rattle.segment.specs.Records.{segment_of, record_of}
use Rattle.segment.proofs.SegmentLaws.{more_plain, no_rows_plain}
use Rattle.segment.proofs.encoding.encoded_len.Goals as goal

pub loop-stamped-init : goal.loop-stamped-init
loop-stamped-init c = omega (arith, ap length no_rows_plain)

pub loop-stamped-preserved : goal.loop-stamped-preserved
loop-stamped-preserved c =
    let rows = c.args.rows.now in
    let i = c.loop-stamped.stamped-index in
    let more = ap length (more_plain rows i c.stamped-item.result c.loop-stamped-test.true c.stamped-item.is) in
    let both = length-append (segment_of (take i rows)) (record_of c.stamped-item.result) in
    omega (arith, more, both, c.loop-stamped.invariant, c.record_len.ensures, c.from.ensures, c.saturating_add-len.ensures)
