use Rattle.std.proofs.Common.{◌<◌, length, map, rules}
use Rattle.std.specs.BinaryHeap.{heap_items}
use Rattle.store_image.specs.Private.Keys.{keys_in}
use Rattle.store_image.proofs.KeysOnce.{round_open, round_ascends, round_ties, round_tells, round_shrinks}
use Rattle.store_image.proofs.apart.run_out.Goals as goal

pub returns-then-not-is_below : goal.returns-then-not-is_below
returns-then-not-is_below c =
    let old = heap_items c.loop-rest.rests in
    let rests = heap_items c.pop.new.self in
    let rest = c.in-Some.rest in
    let opened = c.loop-rest.invariant.opened in
    let next = c.in-Some-peek.next.now in
    let some : 0 < length rests = search rules in
    (λ apart. absurd cc, λ once. absurd (round_ties old rests rest c.in-Some.ensures.permutation opened c.in-Some.ensures.heap_order next some c.in-Some-peek.ensures.lookup (c.in-Some.ensures.below_top opened.heap) (λ less. let yes = c.is_below.ensures.1 less in let no = c.if-not-is_below.true in absurd cc) (c.loop-rest.invariant.tells.1 once)))

pub put_in-requires-clause-rests : goal.put_in-requires-clause-rests
put_in-requires-clause-rests c =
    round_open (heap_items c.loop-rest.rests) (heap_items c.pop.new.self) c.in-Some.rest c.in-Some.ensures.permutation c.loop-rest.invariant.opened c.in-Some.ensures.heap_order

pub put_in-requires-clause-ascending : goal.put_in-requires-clause-ascending
put_in-requires-clause-ascending c =
    round_ascends (heap_items c.loop-rest.rests) (heap_items c.pop.new.self) c.in-Some.rest c.in-Some.ensures.permutation c.loop-rest.invariant.opened c.in-Some.ensures.heap_order c.in-Some-peek.next.now.first c.skip_below.result.now c.skip_below.ensures.behind

pub loop-rest-smaller : goal.loop-rest-smaller
loop-rest-smaller c =
    round_shrinks (heap_items c.loop-rest.rests) (heap_items c.pop.new.self) c.in-Some.rest c.in-Some.ensures.permutation c.loop-rest.invariant.opened c.in-Some.ensures.heap_order (heap_items c.put_in.new.rests) c.in-Some-peek.next.now.first c.skip_below.result.now c.skip_below.ensures.behind c.in_ok-put_in.ensures.left

pub loop-rest-preserved : goal.loop-rest-preserved
loop-rest-preserved c =
    let old = heap_items c.loop-rest.rests in
    let rests = heap_items c.pop.new.self in
    let rest = c.in-Some.rest in
    let opened = c.loop-rest.invariant.opened in
    let next = c.in-Some-peek.next.now in
    let left = round_open old rests rest c.in-Some.ensures.permutation opened c.in-Some.ensures.heap_order in
    record {
      opened = c.in_ok-put_in.ensures.rests;
      tells = round_tells old rests rest c.in-Some.ensures.permutation opened c.in-Some.ensures.heap_order next (c.in-Some-peek.ensures.greatest left.heap) (c.is_below.ensures.0 c.if-not-is_below.false) c.skip_below.result.now c.skip_below.ensures.behind (heap_items c.put_in.new.rests) (map keys_in (heap_items c.args.rests.now)) c.in_ok-put_in.ensures.lists c.loop-rest.invariant.tells;
    }
