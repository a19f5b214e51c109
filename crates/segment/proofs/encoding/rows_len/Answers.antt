use Rattle.std.proofs.Common.{ap, arith, length, take}
use Rattle.std.proofs.lemmas.List.{length-append}
use Rattle.history_model.specs.declared.stamped.StampedRow.{StampedRow}
use Rattle.history_model.specs.History.{stamped}
use Rattle.segment.specs.Records.{segment_of, record_of}
use Rattle.segment.proofs.RecordLaws.{record_size}
use Rattle.segment.proofs.SegmentLaws.{more_stamped, no_rows_plain}
use Rattle.segment.proofs.encoding.rows_len.Goals as goal

pub loop-row-init : goal.loop-row-init
loop-row-init c = λ import. omega (arith, ap length no_rows_plain)

pub loop-row-preserved : goal.loop-row-preserved
loop-row-preserved c = λ import.
    let rows = c.args.rows.now in
    let i = c.loop-row.row-index in
    let s : StampedRow = record { row = c.row-item.result; import = import } in
    let more = ap length (more_stamped import rows i c.row-item.result c.loop-row-test.true c.row-item.is) in
    let both = length-append (segment_of (stamped import (take i rows))) (record_of s) in
    omega (arith, more, both, c.loop-row.invariant import, record_size s, c.row_len.ensures, c.from.ensures, c.saturating_add-bytes.ensures)
