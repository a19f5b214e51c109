use Rattle.std.proofs.Common.{subst, take, take_all, arith}
use Rattle.std.proofs.lemmas.Bool.Decides.{nat_tests}
use Rattle.history_model.specs.InOrder.{IsAscending}
use Rattle.as_of_index.specs.Places.{place_cmp}
use Rattle.as_of_index.specs.Private.Search.{all_places}
use Rattle.as_of_index.proofs.Found.{Picks, pick_nothing, pick_more, places-more}
use Rattle.as_of_index.proofs.Hinted.{picks_sure}
use Rattle.as_of_index.proofs.hints.search_from_hints.Goals as goal
use Rattle.as_of_index.proofs.hints.search_from_hints.Goals.{in-Some+else-eq, in_default}

pub loop-segment-init : goal.loop-segment-init
loop-segment-init c = pick_nothing c.args.kind c.args.id c.args.as_of.now

pub loop-segment-preserved : goal.loop-segment-preserved
loop-segment-preserved c =
    let a = c.args in
    let i = c.loop-segment.segment in
    let ps = c.index-lists-segment.result in
    let up : IsAscending place_cmp c.places-places.result.now = rw c.places-places.ensures.places c.places-places.ensures.ascending in
    let found = rw c.places-places.ensures.places at (c.latest_before-found.ensures up (c.place_from-end.ensures.split up)) in
    let more = places-more a.lists.now i ps c.loop-segment-test.true c.index-lists-segment.is in
    let picks = pick_more a.kind a.id a.as_of.now i ps (all_places 0 (take i a.lists.now)) c.loop-segment.best c.latest_before-found.result c.loop-segment.invariant found in
    elim c.match-found.branch [
      | in-Some+else-eq w ↦ rw (more, w.best-is, w.later-best.ensures) (rw w.in-Some.is at picks)
      | in_default w ↦ rw (more, w.best-is) (rw w.in_default.is at picks)
    ]

pub returns-then-eq : goal.returns-then-eq
returns-then-eq c =
    let a = c.args in
    let ps = c.index-lists-segment.result in
    let up : IsAscending place_cmp c.places-places.result.now = rw c.places-places.ensures.places c.places-places.ensures.ascending in
    let found = rw c.places-places.ensures.places at (c.latest_before-found.ensures up (c.place_from-end.ensures.split up)) in
    picks_sure a.kind a.id a.as_of.now a.lists.now c.loop-segment.segment ps c.in-Some.p c.loop-segment-test.true c.index-lists-segment.is (rw c.in-Some.is at found) (let e = c.if-eq.ensures in grind (arith, nat_tests, e))

pub returns : goal.returns
returns c =
    let a = c.args in
    subst (λ xs. Picks a.kind a.id a.as_of.now (all_places 0 xs) c.loop-segment.best) (take_all c.loop-segment.segment a.lists.now c.loop-segment-test.false) c.loop-segment.invariant
