use Rattle.std.proofs.Common.{sym, ◌∙◌}
use Rattle.as_of_index.proofs.Numbered.{item_within, item_past}
use Rattle.as_of_index.proofs.index.Index.place_of_row.Goals as goal

pub returns-then-segment-lists : goal.returns-then-segment-lists
returns-then-segment-lists c =
    let a = c.args in
    let ps = c.index-lists-segment.result in
    rw c.places.ensures.places at (c.nth_place.ensures) ∙ rw (c.as_slice-lists.ensures.value, c.self.view_is) at (item_within c.as_slice-lists.result.now a.segment a.number ps c.if-segment-lists.true c.index-lists-segment.is)

pub returns-else-segment-lists : goal.returns-else-segment-lists
returns-else-segment-lists c =
    let a = c.args in
    sym (rw (c.as_slice-lists.ensures.value, c.self.view_is) at (item_past c.as_slice-lists.result.now a.segment a.number c.if-segment-lists.false))
