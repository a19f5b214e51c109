use Rattle.std.proofs.Common.{◌-◌, drop}
use Rattle.history_model.proofs.Filtered.{IsAscending-take, IsAscending-drop}
use Rattle.as_of_index.specs.Places.{place_cmp}
use Rattle.as_of_index.specs.Private.Search.{is_before}
use Rattle.as_of_index.proofs.Hinted.{split_within}
use Rattle.as_of_index.proofs.hints.place_from.Goals as goal

pub returns-clause-split : goal.returns-clause-split
returns-clause-split c = λ up.
    let list = c.args.list.now in
    let begin = c.first_place-begin.result in
    let end = c.end_place-end.result in
    split_within (is_before c.args.start.now) begin end c.place.result list c.end_place-end.ensures.within.0 c.end_place-end.ensures.within.1 (c.first_place-begin.ensures.before up) (c.end_place-end.ensures.rest up) c.place.ensures.within
    (c.place.ensures.split (IsAscending-take place_cmp (end - begin) (drop begin list) (IsAscending-drop place_cmp begin list up)))
