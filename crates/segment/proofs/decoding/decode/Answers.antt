use Rattle.std.proofs.Common.{◌≡◌, ℕ, false, true, List, [], ◌∷◌, ◌++◌, refl, sym, ap, subst, ◌∙◌}
use Rattle.std.specs.List.{AllByRecursion}
use Rattle.std.proofs.lemmas.Result.{err_from_is_err_and}
use Rattle.list_lemmas.proofs.Each.{each_of_pushed}
use Rattle.history_model.specs.declared.stamped.StampedRow.{StampedRow}
use Rattle.history_model.specs.InOrder.{IsAscending}
use Rattle.history_model.specs.History.{stamped_cmp}
use Rattle.segment.specs.Records.{segment_in, IsStamped}
use Rattle.segment.proofs.SegmentLaws.{no_rows}
use Rattle.segment.proofs.Decoded.{only_memory, record_goes_on, order_goes_on, ends, reads_on, grows_shorter, some_left, none_left}
use Rattle.segment.proofs.decoding.decode.Goals as goal

pub loop-rest-init : goal.loop-rest-init
loop-rest-init c =
    let none = c.new-rows.ensures.items in
    record {
      bytes = sym (ap (λ (rows : List StampedRow). segment_in c.args.form rows ++ c.args.bytes.now) none ∙ ap (λ (l : List ℕ). l ++ c.args.bytes.now) (no_rows c.args.form));
      each = subst (λ (rows : List StampedRow). AllByRecursion IsStamped rows) (sym none) tt;
      ascending = subst (λ (rows : List StampedRow). IsAscending stamped_cmp rows) (sym none) tt;
    }

pub returns-in_err-row-clause-only : goal.returns-in_err-row-clause-only
returns-in_err-row-clause-only c = λ others is.
    let left = some_left c.loop-rest.rest.now c.loop-rest-test.ensures in
    only_memory c.from_residual.result _ c.in_err-row.field-0.0 (err_from_is_err_and c.from_residual.result c.from_residual.ensures.1)
    (record_goes_on c.args.form c.loop-rest.rows.items others c.args.bytes.now c.loop-rest.rest.now c.loop-rest.invariant.bytes c.loop-rest.invariant.each is left c.in_err-row.field-0.0 c.in_err-row.ensures)

pub returns-then-not-comes_after-clause-only : goal.returns-then-not-comes_after-clause-only
returns-then-not-comes_after-clause-only c = λ others is.
    let left = some_left c.loop-rest.rest.now c.loop-rest-test.ensures in
    let up = order_goes_on c.args.form c.loop-rest.rows.items others c.args.bytes.now c.loop-rest.rest.now c.loop-rest.invariant.bytes c.loop-rest.invariant.each is left c.in_ok-row.row c.in_ok-row.after.now c.in_ok-row.ensures.0 c.in_ok-row.ensures.1 in
    let there : IsAscending stamped_cmp (c.deref.result.now ++ c.in_ok-row.row ∷ []) = subst (λ (rows : List StampedRow). IsAscending stamped_cmp (rows ++ c.in_ok-row.row ∷ [])) (sym c.deref.ensures.value) up in
    let above : false ≡ true = c.if-not-comes_after.ensures.1 there in absurd cc

pub loop-rest-smaller : goal.loop-rest-smaller
loop-rest-smaller c = grows_shorter c.args.form c.loop-rest.rest.now c.in_ok-row.after.now c.in_ok-row.row c.in_ok-row.ensures.1

pub loop-rest-preserved : goal.loop-rest-preserved
loop-rest-preserved c =
    let rows = c.loop-rest.rows.items in
    let row = c.in_ok-row.row in
    let more = c.in_ok-push.ensures.items in
    let up : IsAscending stamped_cmp (rows ++ row ∷ []) = subst (λ (l : List StampedRow). IsAscending stamped_cmp (l ++ row ∷ [])) c.deref.ensures.value (c.if-not-comes_after.ensures.0 refl) in
    record {
      bytes = reads_on c.args.form rows c.args.bytes.now c.loop-rest.rest.now c.in_ok-row.after.now row c.loop-rest.invariant.bytes c.in_ok-row.ensures.1 ∙ ap (λ (l : List StampedRow). segment_in c.args.form l ++ c.in_ok-row.after.now) (sym more);
      each = subst (λ (l : List StampedRow). AllByRecursion IsStamped l) (sym more) (each_of_pushed IsStamped rows row c.loop-rest.invariant.each c.in_ok-row.ensures.0);
      ascending = subst (λ (l : List StampedRow). IsAscending stamped_cmp l) (sym more) up;
    }

pub returns-clause-only : goal.returns-clause-only
returns-clause-only c = λ others is.
    ends c.args.form c.loop-rest.rows.items others c.args.bytes.now c.loop-rest.rest.now c.loop-rest.invariant.bytes c.loop-rest.invariant.each is (none_left c.loop-rest.rest.now c.loop-rest-test.ensures)
