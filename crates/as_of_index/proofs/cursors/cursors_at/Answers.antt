use Rattle.std.proofs.Common.{List, [], ◌∷◌, ◌++◌, take, sym, ap, ◌∙◌}
use Rattle.segment.specs.declared.place.RowPlace.{RowPlace}
use Rattle.std.proofs.lemmas.List.{take_more}
use Rattle.as_of_index.specs.Private.Search.{changed_parts}
use Rattle.as_of_index.proofs.Walking.{passed_push}
use Rattle.as_of_index.proofs.Changed.{part_within, part_at}
use Rattle.as_of_index.proofs.cursors.cursors_at.Goals as goal

pub loop-list-preserved : goal.loop-list-preserved
loop-list-preserved c =
    let a = c.args in
    let i = c.loop-list.list-index in
    let part = c.changed_part.result.now in
    let parts = changed_parts a.from a.as_of.now a.lists.now in
    let is = part_at a.from a.as_of.now a.lists.now i c.list-item.result part c.loop-list-test.true c.list-item.is c.changed_part.ensures.part in
    let more = take_more parts i part (part_within a.from a.as_of.now a.lists.now i c.loop-list-test.true) ∙ ap (λ (x : List RowPlace). take i parts ++ x ∷ []) (sym is) in
    let added = passed_push a.start.now (take i parts) c.loop-list.cursors.items part c.place.result c.loop-list.invariant
    c.place.ensures.within (c.place.ensures.split c.changed_part.ensures.ascending) in
    rw (c.in_ok-push.ensures.items, more) added
