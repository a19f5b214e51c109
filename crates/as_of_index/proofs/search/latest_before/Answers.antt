use Rattle.std.proofs.Common.{sym, ◌∙◌}
use Rattle.as_of_index.proofs.Found.{picked_of_list, other_of_list, none_of_list}
use Rattle.as_of_index.proofs.search.latest_before.Goals as goal
use Rattle.as_of_index.proofs.search.latest_before.Goals.{in_default-via-in-Some+else-is_of, in_default-via-in_default}

pub returns-in-Some : goal.returns-in-Some
returns-in-Some c = λ up split.
    let a = c.args in
    picked_of_list a.kind a.id a.as_of.now a.list.now a.end up split c.in-Some.p.now c.in-Some.ensures (sym c.is_of.ensures ∙ c.if-is_of.true)

pub returns-in_default : goal.returns-in_default
returns-in_default c = λ up split.
    let a = c.args in
    elim c.in_default.branch [
      | in_default-via-in-Some+else-is_of w ↦ other_of_list a.kind a.id a.as_of.now a.list.now a.end up split w.in-Some.p.now w.in-Some.ensures (sym w.is_of.ensures ∙ w.if-is_of.false)
      | in_default-via-in_default w ↦ none_of_list a.kind a.id a.as_of.now a.list.now a.end up split w.in_default.ensures
    ]
