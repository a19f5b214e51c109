use Rattle.std.proofs.Common.{None, sym, subst, take, take_all, get_or, arith}
use Rattle.as_of_index.specs.declared.search.Start.TheVariants.{Later}
use Rattle.as_of_index.specs.Private.Search.{all_places, changed_parts, IsPassed}
use Rattle.as_of_index.proofs.Found.{places-more}
use Rattle.as_of_index.proofs.Walking.{passed_len, passed_at}
use Rattle.as_of_index.proofs.Changed.{part_within, part_at, PicksFrom, pick_from_nothing, pick_from_part, pick_from_more}
use Rattle.as_of_index.proofs.cursors.latest_on.Goals as goal
use Rattle.as_of_index.proofs.cursors.latest_on.Goals.{in-Some, in_default}

pub loop-segment-init : goal.loop-segment-init
loop-segment-init c = pick_from_nothing c.args.from c.args.as_of.now c.args.kind c.args.id

pub bounds-cursors-segment : goal.bounds-cursors-segment
bounds-cursors-segment c =
    let a = c.args in
    let same = passed_len (Later a.kind a.id None) (changed_parts a.from a.as_of.now a.lists.now) a.cursors.now c.requires in
    let lt = part_within a.from a.as_of.now a.lists.now c.loop-segment.segment c.loop-segment-test.true in
    omega arith

pub returns : goal.returns
returns c =
    let a = c.args in
    subst (λ xs. PicksFrom a.from a.as_of.now a.kind a.id (all_places 0 xs) c.loop-segment.best) (take_all c.loop-segment.segment a.lists.now c.loop-segment-test.false) c.loop-segment.invariant

pub latest_from-found-requires : goal.latest_from-found-requires
latest_from-found-requires c =
    let a = c.args in
    let start = Later a.kind a.id None in
    let i = c.loop-segment.segment in
    let part = c.changed_part-places.result.now in
    let parts = changed_parts a.from a.as_of.now a.lists.now in
    let is = part_at a.from a.as_of.now a.lists.now i c.index-lists-segment.result part c.loop-segment-test.true c.index-lists-segment.is c.changed_part-places.ensures.part in
    let at = passed_at start parts a.cursors.now i part 0 c.requires (part_within a.from a.as_of.now a.lists.now i c.loop-segment-test.true) in
    subst (λ qs. IsPassed start qs (get_or a.cursors.now i 0)) (sym is) at

pub loop-segment-preserved : goal.loop-segment-preserved
loop-segment-preserved c =
    let a = c.args in
    let i = c.loop-segment.segment in
    let ps = c.index-lists-segment.result in
    let found = pick_from_part a.from a.as_of.now a.kind a.id ps c.latest_from-found.result (rw c.changed_part-places.ensures.part at (c.latest_from-found.ensures c.changed_part-places.ensures.ascending)) in
    let more = places-more a.lists.now i ps c.loop-segment-test.true c.index-lists-segment.is in
    let picks = pick_from_more a.from a.as_of.now a.kind a.id i ps (all_places 0 (take i a.lists.now)) c.loop-segment.best c.later_than.result c.loop-segment.invariant (rw c.later_than.ensures found) in
    elim c.match-later_than.branch [
      | in-Some w ↦ rw (more, w.best-is, w.later-best.ensures) (rw w.in-Some.is at picks)
      | in_default w ↦ rw (more, w.best-is) (rw w.in_default.is at picks)
    ]
