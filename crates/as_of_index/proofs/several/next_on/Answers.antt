use Rattle.std.proofs.Common.{subst, take, take_all}
use Rattle.as_of_index.specs.Private.Search.{all_places, IsFirstFrom}
use Rattle.as_of_index.proofs.Found.{places-more}
use Rattle.as_of_index.proofs.Following.{Nexts, next_nothing, next_more}
use Rattle.as_of_index.proofs.several.next_on.Goals as goal
use Rattle.as_of_index.proofs.several.next_on.Goals.{in-Some, in-None}

pub loop-segment-init : goal.loop-segment-init
loop-segment-init c = next_nothing c.args.start.now

pub loop-segment-preserved : goal.loop-segment-preserved
loop-segment-preserved c =
    let a = c.args in
    let list = c.index-lists-segment.result in
    let found : IsFirstFrom a.start.now (λ p. p) list c.match-get_mut.found = elim c.match-get_mut.branch [
      | in-Some w ↦ rw w.found-is w.next_at-found.ensures
      | in-None w ↦ rw w.found-is (
          let there = w.next_in-found.ensures (rw w.places.ensures.places w.places.ensures.ascending) in
          rw w.places.ensures.places at there)
    ] in
    rw (c.sooner-best.ensures, places-more a.lists.now c.loop-segment.segment list c.loop-segment-test.true c.index-lists-segment.is)
    (next_more a.start.now c.loop-segment.segment list (all_places 0 (take c.loop-segment.segment a.lists.now)) c.loop-segment.best c.match-get_mut.found c.loop-segment.invariant found)

pub returns : goal.returns
returns c =
    let a = c.args in
    subst (λ xs. Nexts a.start.now (all_places 0 xs) c.loop-segment.best) (take_all c.loop-segment.segment a.lists.now c.loop-segment-test.false) c.loop-segment.invariant
