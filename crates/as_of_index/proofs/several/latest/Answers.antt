use Rattle.std.proofs.Common.{subst, take, take_all}
use Rattle.as_of_index.specs.Private.Search.{all_places}
use Rattle.as_of_index.proofs.Found.{Picks, pick_nothing, pick_more, places-more}
use Rattle.as_of_index.proofs.Shown.{pick_of_part}
use Rattle.as_of_index.proofs.several.latest.Goals as goal

pub loop-segment-init : goal.loop-segment-init
loop-segment-init c = pick_nothing c.args.kind c.args.id c.args.as_of.now

pub loop-segment-preserved : goal.loop-segment-preserved
loop-segment-preserved c =
    let a = c.args in
    let ps = c.index-lists-segment.result in
    let up = c.shown_part-places.ensures.ascending in
    let found = pick_of_part a.as_of.now a.kind a.id ps c.latest_before-found.result (rw c.shown_part-places.ensures.part at (c.latest_before-found.ensures up (c.place_near-end.ensures.split up))) in
    rw (c.later-best.ensures, places-more a.lists.now c.loop-segment.segment ps c.loop-segment-test.true c.index-lists-segment.is)
    (pick_more a.kind a.id a.as_of.now c.loop-segment.segment ps (all_places 0 (take c.loop-segment.segment a.lists.now)) c.loop-segment.best c.latest_before-found.result c.loop-segment.invariant found)

pub returns : goal.returns
returns c =
    let a = c.args in
    subst (λ xs. Picks a.kind a.id a.as_of.now (all_places 0 xs) c.loop-segment.best) (take_all c.loop-segment.segment a.lists.now c.loop-segment-test.false) c.loop-segment.invariant
