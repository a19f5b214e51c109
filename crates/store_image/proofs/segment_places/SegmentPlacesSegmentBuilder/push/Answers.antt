use Rattle.std.proofs.Common.{◌^◌, ◌<◌, ◌++◌, ◌∷◌, [], List, length, sym, ap, subst, ◌∙◌, arith}
use Rattle.history_model.specs.declared.stamped.StampedRow.{StampedRow}
use Rattle.segment.specs.Records.{segment_of}
use Rattle.segment.proofs.Posting.{record_ends as placed_end}
use Rattle.store_image.proofs.RowsRead.{placed_more}
use Rattle.store_image.proofs.segment_places.SegmentPlacesSegmentBuilder.push.Goals as goal

pub overflow_add-self : goal.overflow_add-self
overflow_add-self c =
    let short = subst (λ (l : List StampedRow). length (segment_of (l ++ c.args.row.now ∷ [])) < 2 ^ 32) (sym c.self.view_is) c.requires in
    let ends = placed_end c.self.inside.rows c.args.row.now c.self.inside.bytes c.new-place.result c.self.invariant.1 c.new-place.ensures in
    omega (arith, short, ends)

pub invariant_of-self-2 : goal.invariant_of-self-2
invariant_of-self-2 c =
    let inside = c.self.inside in
    let place = c.new-place.result in
    let more = c.in-Ok.ensures.items ∙ ap (λ xs. xs ++ place ∷ []) c.in_ok-reserve.ensures.items in
    placed_more inside.places.items c.push-2.new.self.items inside.bytes inside.rows c.push.new.self c.args.row.now place c.self.invariant c.new-place.ensures more c.in_ok-push.ensures.ok
