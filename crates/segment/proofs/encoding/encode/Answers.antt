use Rattle.std.proofs.Common.{ℕ, List, ◌++◌, take, subst, sym, ap, ◌∙◌}
use Rattle.std.specs.List.{AllByRecursion}
use Rattle.list_lemmas.proofs.Each.{each_of_pushed}
use Rattle.list_lemmas.proofs.Parts.{take_one_more}
use Rattle.segment.specs.Records.{record_in, IsStamped}
use Rattle.segment.proofs.SegmentLaws.{segment_more, no_rows}
use Rattle.segment.proofs.encoding.encode.Goals as goal

pub loop-stamped-init : goal.loop-stamped-init
loop-stamped-init c = record { bytes = c.in_ok-out.ensures.items ∙ sym (no_rows c.args.form); each = tt }

pub loop-stamped-preserved : goal.loop-stamped-preserved
loop-stamped-preserved c =
    let rows = c.args.rows.now in
    let i = c.loop-stamped.stamped-index in
    let item = c.stamped-item.result in
    record {
      bytes = c.in_ok-put_record.ensures.bytes ∙ ap (λ (bytes : List ℕ). bytes ++ record_in c.args.form item) c.loop-stamped.invariant.bytes ∙ sym (segment_more c.args.form rows i item c.loop-stamped-test.true c.stamped-item.is);
      each = subst (AllByRecursion IsStamped) (sym (take_one_more rows i item c.loop-stamped-test.true c.stamped-item.is)) (each_of_pushed IsStamped (take i rows) item c.loop-stamped.invariant.each c.in_ok-put_record.ensures.stamped);
    }
