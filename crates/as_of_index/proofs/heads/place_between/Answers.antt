use Rattle.std.proofs.Common.{◌-◌, drop}
use Rattle.history_model.proofs.Filtered.{IsAscending-take, IsAscending-drop}
use Rattle.as_of_index.specs.Places.{place_cmp}
use Rattle.as_of_index.specs.Private.Search.{is_before}
use Rattle.as_of_index.proofs.Hinted.{split_within}
use Rattle.as_of_index.proofs.heads.place_between.Goals as goal

pub returns-then-is_ahead-clause-split : goal.returns-then-is_ahead-clause-split
returns-then-is_ahead-clause-split c = λ up.
    let a = c.args in
    let list = a.list.now in
    split_within (is_before a.start.now) a.begin a.end c.place.result list c.if-begin-end.true c.if-end-list.true (c.is_behind.ensures.before up c.if-is_behind.true) (c.is_ahead.ensures up c.if-is_ahead.true) c.place.ensures.within
    (c.place.ensures.split (IsAscending-take place_cmp (a.end - a.begin) (drop a.begin list) (IsAscending-drop place_cmp a.begin list up)))
