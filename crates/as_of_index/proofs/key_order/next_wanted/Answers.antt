use Rattle.std.proofs.Common.{sym, ◌∙◌}
use Rattle.as_of_index.specs.Private.Search.{all_places}
use Rattle.as_of_index.proofs.KeyOrder.{next_is, none_is, later_is}
use Rattle.as_of_index.proofs.key_order.next_wanted.Goals as goal
use Rattle.as_of_index.proofs.key_order.next_wanted.Goals.{in_default-via-in-Some+else-is_of_kind, in_default-via-in_default}

pub returns-in-Some : goal.returns-in-Some
returns-in-Some c = next_is c.args.kind c.args.after c.start_from-start.result (all_places 0 c.args.lists.now) c.start_from-start.ensures (c.in-Some.segment, c.in-Some.p) c.in-Some.ensures (sym c.is_of_kind.ensures ∙ c.if-is_of_kind.true)

pub returns-in_default : goal.returns-in_default
returns-in_default c =
    let a = c.args in
    elim c.in_default.branch [
      | in_default-via-in-Some+else-is_of_kind w ↦ later_is a.kind a.after c.start_from-start.result (all_places 0 a.lists.now) c.start_from-start.ensures (w.in-Some.segment, w.in-Some.p) w.in-Some.ensures (sym w.is_of_kind.ensures ∙ w.if-is_of_kind.false)
      | in_default-via-in_default w ↦ none_is a.kind a.after c.start_from-start.result (all_places 0 a.lists.now) c.start_from-start.ensures (rw w.in_default.is at c.next_on.ensures)
    ]
