use Rattle.std.proofs.Common.{◌≡◌, [], ◌∷◌, ◌++◌, refl, sym, ap, subst, ◌∙◌, append_assoc, append-nil}
use Rattle.std.specs.Prelude.{None, Some}
use Rattle.rf2_values.specs.declared.key.Key.{Key}
use Rattle.history_model.specs.Laws.{last_id}
use Rattle.snapshot_check.specs.Differences.{is_more}
use Rattle.std.specs.Prelude.{false}
use Rattle.snapshot_check.specs.Private.{IsItself, AddsThose}
use Rattle.snapshot_check.proofs.Picking.{adds_none, adds_both}
use Rattle.snapshot_check.proofs.Paging.{last_pushed}
use Rattle.snapshot_check.proofs.more.add_rows.Goals as goal

pub loop-row-init : goal.loop-row-init
loop-row-init c = ([], sym (c.into_iter-row-iterator.ensures.into_iter_gives ∙ c.new-row-items.ensures), refl, λ rows sorted. adds_none (IsItself rows) (λ row. is_more rows row ≡ false) c.args.limit c.args.more.now)

pub loop-row-preserved : goal.loop-row-preserved
loop-row-preserved c =
    let before = c.loop-row.invariant in
    let row = c.in-Some.row in
    let steps = c.in-Some.ensures.steps in
    let rest = c.next.new.self in (
      before.0 ++ row ∷ [],
      before.1 ∙ ap (λ left. before.0 ++ left) steps ∙ sym (append_assoc before.0 (row ∷ []) rest),
      ap (λ (k : Key). Some k.id) c.key-key.ensures.key ∙ sym (last_pushed before.0 row None),
      λ rows sorted. adds_both (IsItself rows) (λ r. is_more rows r ≡ false) c.args.limit before.0 (row ∷ []) c.args.more.now c.loop-row.more c.add_row.new.more (before.3 rows sorted) (c.in_ok-add_row.ensures rows sorted),
    )

pub returns-clause-last : goal.returns-clause-last
returns-clause-last c =
    let before = c.loop-row.invariant in
    before.2 ∙ ap (last_id None) (sym (append-nil before.0) ∙ ap (λ left. before.0 ++ left) (sym c.in-None.ensures.steps.0) ∙ sym before.1)

pub returns-clause-adds : goal.returns-clause-adds
returns-clause-adds c = λ rows sorted.
    let before = c.loop-row.invariant in
    subst (λ xs. AddsThose rows xs c.args.limit c.args.more.now c.loop-row.more) (sym (append-nil before.0) ∙ ap (λ left. before.0 ++ left) (sym c.in-None.ensures.steps.0) ∙ sym before.1) (before.3 rows sorted)
