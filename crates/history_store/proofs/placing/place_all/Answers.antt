use Rattle.std.proofs.Common.{◌++◌, ◌∷◌, [], List, sym, ap, subst, ◌∙◌, arith, append_assoc, append-nil}
use Rattle.std.specs.List.{AllByRecursion}
use Rattle.history_model.specs.declared.stamped.StampedRow.{StampedRow}
use Rattle.rf2_values.specs.Row.{RowValue}
use Rattle.history_model.specs.InOrder.{IsAscending}
use Rattle.history_model.specs.History.{stamped, stamped_cmp}
use Rattle.segment_index.specs.Indexed.{SegmentRows}
use Rattle.segment.specs.Records.{segment_in, IsStamped}
use Rattle.segment.proofs.SegmentLaws.{no_rows}
use Rattle.history_store.proofs.NewSegment.{ascending_stamped}
use Rattle.history_store.proofs.Places.{segment_begins, more_placed}
use Rattle.history_store.proofs.placing.place_all.Goals as goal

pub loop-row-init : goal.loop-row-init
loop-row-init c =
    let gives = c.into_iter-row-iterator.ensures.into_iter_gives ∙ c.new-row-items.ensures in
    let none = sym (ap (λ (s : SegmentRows). s.rows) c.in_ok-index.ensures) in
    record {
      split = ap (stamped c.args.import) (sym gives) ∙ ap (λ (l : List StampedRow). l ++ stamped c.args.import c.into_iter-row-iterator.result) none;
      bytes = c.in_ok-bytes.ensures.items ∙ sym (no_rows c.args.form) ∙ ap (segment_in c.args.form) none;
      each = subst (AllByRecursion IsStamped) none tt;
      words = ap (λ (s : SegmentRows). s.words) c.in_ok-index.ensures;
    }

pub push-requires : goal.push-requires
push-requires c =
    let inv = c.loop-row.invariant in
    let index = c.loop-row.index.rows in
    let of = stamped c.args.import in
    let s : StampedRow = record { row = c.in-Some.row; import = c.args.import } in
    let split = inv.split ∙ ap (λ (l : List StampedRow). index ++ l) (ap of c.in-Some.ensures.steps) ∙ sym (append_assoc index (s ∷ []) (of c.next.new.self)) in
    let first = segment_begins (of c.args.rows.items) (index ++ s ∷ []) (of c.next.new.self) split in
    omega (arith, first, c.requires.short)

pub loop-row-preserved : goal.loop-row-preserved
loop-row-preserved c =
    let inv = c.loop-row.invariant in
    let of = stamped c.args.import in
    let s : StampedRow = record { row = c.in-Some.row; import = c.args.import } in
    let next = more_placed c.args.form (of c.args.rows.items) c.loop-row.index.rows c.push.new.self.rows (of c.loop-row.row-iterator) (of c.next.new.self) c.loop-row.bytes.items _ s inv.split (ap of c.in-Some.ensures.steps) inv.bytes inv.each (ap (λ (s : SegmentRows). s.rows) c.in_ok-push.ensures.ok) c.in_ok-put_record.ensures.bytes c.in_ok-put_record.ensures.stamped in
    record { split = next.0; bytes = next.1; each = next.2; words = ap (λ (s : SegmentRows). s.words) c.in_ok-push.ensures.ok ∙ inv.words }

pub loop-row-preserved-in_ok-push : goal.loop-row-preserved-in_ok-push
loop-row-preserved-in_ok-push c =
    let inv = c.loop-row.invariant in
    let of = stamped c.args.import in
    let s : StampedRow = record { row = c.in-Some.row; import = c.args.import } in
    let next = more_placed c.args.form (of c.args.rows.items) c.loop-row.index.rows c.push.new.self.rows (of c.loop-row.row-iterator) (of c.next.new.self) c.loop-row.bytes.items _ s inv.split (ap of c.in-Some.ensures.steps) inv.bytes inv.each (ap (λ (s : SegmentRows). s.rows) c.in_ok-push.ensures.ok) c.in_ok-put_record.ensures.bytes c.in_ok-put_record.ensures.stamped in
    record { split = next.0; bytes = next.1; each = next.2; words = ap (λ (s : SegmentRows). s.words) c.in_ok-push.ensures.ok ∙ inv.words }

pub loop-row-preserved-in_ok-push-2 : goal.loop-row-preserved-in_ok-push-2
loop-row-preserved-in_ok-push-2 c =
    let inv = c.loop-row.invariant in
    let of = stamped c.args.import in
    let s : StampedRow = record { row = c.in-Some.row; import = c.args.import } in
    let next = more_placed c.args.form (of c.args.rows.items) c.loop-row.index.rows c.push.new.self.rows (of c.loop-row.row-iterator) (of c.next.new.self) c.loop-row.bytes.items _ s inv.split (ap of c.in-Some.ensures.steps) inv.bytes inv.each (ap (λ (s : SegmentRows). s.rows) c.in_ok-push.ensures.ok) c.in_ok-put_record.ensures.bytes c.in_ok-put_record.ensures.stamped in
    record { split = next.0; bytes = next.1; each = next.2; words = ap (λ (s : SegmentRows). s.words) c.in_ok-push.ensures.ok ∙ inv.words }

pub loop-row-preserved-in_ok-push-3 : goal.loop-row-preserved-in_ok-push-3
loop-row-preserved-in_ok-push-3 c =
    let inv = c.loop-row.invariant in
    let of = stamped c.args.import in
    let s : StampedRow = record { row = c.in-Some.row; import = c.args.import } in
    let next = more_placed c.args.form (of c.args.rows.items) c.loop-row.index.rows c.push.new.self.rows (of c.loop-row.row-iterator) (of c.next.new.self) c.loop-row.bytes.items _ s inv.split (ap of c.in-Some.ensures.steps) inv.bytes inv.each (ap (λ (s : SegmentRows). s.rows) c.in_ok-push.ensures.ok) c.in_ok-put_record.ensures.bytes c.in_ok-put_record.ensures.stamped in
    record { split = next.0; bytes = next.1; each = next.2; words = ap (λ (s : SegmentRows). s.words) c.in_ok-push.ensures.ok ∙ inv.words }

pub seal-requires : goal.seal-requires
seal-requires c =
    let of = stamped c.args.import in
    let all = c.loop-row.invariant.split ∙ ap (λ (l : List RowValue). c.loop-row.index.rows ++ of l) c.in-None.ensures.steps.0 ∙ append-nil c.loop-row.index.rows in
    subst (IsAscending stamped_cmp) all (ascending_stamped c.args.import c.args.rows.items c.requires.ascending)

pub returns-clause-segment : goal.returns-clause-segment
returns-clause-segment c =
    let of = stamped c.args.import in
    let inv = c.loop-row.invariant in
    let all = inv.split ∙ ap (λ (l : List RowValue). c.loop-row.index.rows ++ of l) c.in-None.ensures.steps.0 ∙ append-nil c.loop-row.index.rows in
    record {
      each = subst (AllByRecursion IsStamped) (sym all) inv.each;
      ascending = ascending_stamped c.args.import c.args.rows.items c.requires.ascending;
      bytes_are = inv.bytes ∙ ap (segment_in c.args.form) (sym all);
    }

pub returns-clause-index : goal.returns-clause-index
returns-clause-index c =
    let of = stamped c.args.import in
    let all = c.loop-row.invariant.split ∙ ap (λ (l : List RowValue). c.loop-row.index.rows ++ of l) c.in-None.ensures.steps.0 ∙ append-nil c.loop-row.index.rows in
    c.in_ok-seal.ensures ∙ (λ i. record { rows = sym all i; words = c.loop-row.invariant.words i })
