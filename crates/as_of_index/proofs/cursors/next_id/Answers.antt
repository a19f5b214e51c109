use Rattle.std.proofs.Common.{◌≤◌, List, length, sym, subst, take, take_all, get_or, arith}
use Rattle.segment.specs.declared.place.RowPlace.{RowPlace}
use Rattle.as_of_index.specs.Private.Search.{all_places, in_segment, is_before, changed_parts, SplitsAt, IsPassed}
use Rattle.as_of_index.specs.declared.search.Start.TheVariants.{Components}
use Rattle.as_of_index.proofs.Found.{places-more}
use Rattle.as_of_index.proofs.LeastIds.{id_of_list}
use Rattle.as_of_index.proofs.Walking.{passed_len, passed_at, passed_set}
use Rattle.as_of_index.proofs.Changed.{part_within, part_at, NextChanged, changed_nothing, changed_of_part, changed_more}
use Rattle.as_of_index.proofs.cursors.next_id.Goals as goal

pub loop-segment-init : goal.loop-segment-init
loop-segment-init c = record { passed = c.requires; next = changed_nothing c.args.from c.args.as_of.now c.args.kind c.args.after }

pub index-requires : goal.index-requires
index-requires c =
    let a = c.args in
    let same = passed_len (Components a.kind a.after) (changed_parts a.from a.as_of.now a.lists.now) c.loop-segment.cursors.items c.loop-segment.invariant.passed in
    let lt = part_within a.from a.as_of.now a.lists.now c.loop-segment.segment c.loop-segment-test.true in
    omega arith

pub go_on-first-requires : goal.go_on-first-requires
go_on-first-requires c =
    let a = c.args in
    let i = c.loop-segment.segment in
    let part = c.changed_part-places.result.now in
    let parts = changed_parts a.from a.as_of.now a.lists.now in
    let is = part_at a.from a.as_of.now a.lists.now i c.index-lists-segment.result part c.loop-segment-test.true c.index-lists-segment.is c.changed_part-places.ensures.part in
    let at = passed_at (Components a.kind a.after) parts c.loop-segment.cursors.items i part c.index.result.now c.loop-segment.invariant.passed (part_within a.from a.as_of.now a.lists.now i c.loop-segment-test.true) in
    let own : get_or c.loop-segment.cursors.items i c.index.result.now ≤ length part = subst (λ (qs : List RowPlace). get_or c.loop-segment.cursors.items i c.index.result.now ≤ length qs) (sym is) at.within in
    subst (λ n. n ≤ length part) (sym c.index.ensures) own

pub index_mut-requires : goal.index_mut-requires
index_mut-requires c =
    let a = c.args in
    let same = passed_len (Components a.kind a.after) (changed_parts a.from a.as_of.now a.lists.now) c.loop-segment.cursors.items c.loop-segment.invariant.passed in
    let lt = part_within a.from a.as_of.now a.lists.now c.loop-segment.segment c.loop-segment-test.true in
    omega arith

pub loop-segment-preserved : goal.loop-segment-preserved
loop-segment-preserved c =
    let a = c.args in
    let start = Components a.kind a.after in
    let i = c.loop-segment.segment in
    let ps = c.index-lists-segment.result in
    let part = c.changed_part-places.result.now in
    let parts = changed_parts a.from a.as_of.now a.lists.now in
    let first = c.go_on-first.result in
    let is = part_at a.from a.as_of.now a.lists.now i ps part c.loop-segment-test.true c.index-lists-segment.is c.changed_part-places.ensures.part in
    let at = passed_at start parts c.loop-segment.cursors.items i part c.index.result.now c.loop-segment.invariant.passed (part_within a.from a.as_of.now a.lists.now i c.loop-segment-test.true) in
    let at_own : IsPassed start part (get_or c.loop-segment.cursors.items i c.index.result.now) = subst (λ qs. IsPassed start qs (get_or c.loop-segment.cursors.items i c.index.result.now)) (sym is) at in
    let here : IsPassed start part c.index.result.now = subst (λ n. IsPassed start part n) (sym c.index.ensures) at_own in
    let ascends = c.changed_part-places.ensures.ascending in
    let split : SplitsAt (is_before start) part first = c.go_on-first.ensures.split ascends here.before in
    let found = id_of_list a.kind a.after i part first ascends split in
    let shown = changed_of_part a.from a.as_of.now a.kind a.after i ps c.id_at.result (rw (c.id_at.ensures, ← c.changed_part-places.ensures.part) found) in
    record {
      passed = passed_set start parts c.loop-segment.cursors.items i part first c.loop-segment.invariant.passed
          (subst (λ (qs : List RowPlace). first ≤ length qs) is c.go_on-first.ensures.within) (subst (λ qs. SplitsAt (is_before start) qs first) is split);
      next = rw (c.lesser-best.ensures, places-more a.lists.now i ps c.loop-segment-test.true c.index-lists-segment.is)
          (changed_more a.from a.as_of.now a.kind a.after (all_places 0 (take i a.lists.now)) (in_segment i ps) c.loop-segment.best c.id_at.result c.loop-segment.invariant.next shown);
    }

pub returns : goal.returns
returns c =
    let a = c.args in
    record {
      next = subst (λ xs. NextChanged a.from a.as_of.now a.kind a.after (all_places 0 xs) c.loop-segment.best) (take_all c.loop-segment.segment a.lists.now c.loop-segment-test.false) c.loop-segment.invariant.next;
      passed = c.loop-segment.invariant.passed;
    }
