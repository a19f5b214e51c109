use Rattle.std.proofs.Common.{List, ◌∷◌, [], ◌++◌, ◌-◌, length, take, subst, sym}
use Rattle.history_model.specs.declared.stamped.StampedRow.{StampedRow}
use Rattle.history_model.specs.InOrder.{IsAscending}
use Rattle.history_model.specs.History.{stamped_cmp}
use Rattle.history_model.proofs.Keys.{stamped_total}
use Rattle.segment.proofs.Ascending.{ascends_push, last_split}
use Rattle.layer_cases.proofs.segments.comes_after.Goals as goal

pub returns-in-len1-up : goal.returns-in-len1-up
returns-in-len1-up c = λ below.
    let rows = c.args.rows.now in
    let last = c.last-item.result in
    let front = take (length rows - 1) rows in
    let split = last_split rows last c.in-len1-up.len_at_least c.last-item.is in
    subst (λ (l : List StampedRow). IsAscending stamped_cmp (l ++ c.args.row.now ∷ [])) (sym split)
    (ascends_push stamped_total front last c.args.row.now (subst (λ (l : List StampedRow). IsAscending stamped_cmp l) split c.requires) (c.is_below.ensures.0 below))
