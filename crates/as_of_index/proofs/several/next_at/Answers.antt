use Rattle.history_model.specs.InOrder.{IsAscending}
use Rattle.as_of_index.specs.Places.{place_cmp}
use Rattle.as_of_index.proofs.Following.{next_of_list}
use Rattle.as_of_index.proofs.several.next_at.Goals as goal

pub returns : goal.returns
returns c =
    let up : IsAscending place_cmp c.places-places.result.now = rw c.places-places.ensures.places c.places-places.ensures.ascending in
    let found = next_of_list c.args.start.now _ c.place_on-first.result c.nth_place.result up (c.place_on-first.ensures.split up) c.nth_place.ensures in
    rw c.places-places.ensures.places at found
