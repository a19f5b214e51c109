use Rattle.std.specs.BinaryHeap.{heap_items}
use Rattle.std.proofs.Common.{List, [], map, sym, subst}
use Rattle.list_lemmas.proofs.Each.{each_at_place as all_get}
use Rattle.history_model.specs.InOrder.{IsAscending}
use Rattle.rf2_values.specs.declared.key.Key.{Key}
use Rattle.rf2_values.specs.Key.{key_cmp}
use Rattle.segment.specs.Standing.{places_of}
use Rattle.store_image.specs.Private.Keys.{Opens, keys_of, keys_in}
use Rattle.store_image.proofs.KeysOnce.{as_many_lists, list_keys, list_opens}
use Rattle.store_image.proofs.apart.are_apart.Goals as goal

pub put_in-requires-clause-ascending : goal.put_in-requires-clause-ascending
put_in-requires-clause-ascending g c =
    let sealed = g.B.SegmentBuilder.sealed in
    let all = map keys_of (map places_of (map sealed c.args.segments.now)) in
    let i = c.loop-segment.segment-index in
    let lt = as_many_lists sealed c.args.segments.now i c.segment-item.result c.places.result.now c.loop-segment-test.true c.segment-item.is c.places.ensures in
    subst (λ (k : List Key). IsAscending key_cmp k) (list_keys sealed c.args.segments.now i c.segment-item.result c.places.result.now c.loop-segment-test.true c.segment-item.is c.places.ensures)
    (all_get (IsAscending key_cmp) all i [] lt c.requires)

pub loop-segment-preserved : goal.loop-segment-preserved
loop-segment-preserved g c =
    let sealed = g.B.SegmentBuilder.sealed in
    let all = map keys_of (map places_of (map sealed c.args.segments.now)) in
    let i = c.loop-segment.segment-index in
    let lt = as_many_lists sealed c.args.segments.now i c.segment-item.result c.places.result.now c.loop-segment-test.true c.segment-item.is c.places.ensures in
    let keys = list_keys sealed c.args.segments.now i c.segment-item.result c.places.result.now c.loop-segment-test.true c.segment-item.is c.places.ensures in
    let old = map keys_in (heap_items c.loop-segment.rests) in
    let new = map keys_in (heap_items c.put_in.new.rests) in
    record {
      opened = c.in_ok-put_in.ensures.rests;
      tells = list_opens all i [] (heap_items c.loop-segment.rests) (heap_items c.put_in.new.rests) lt c.loop-segment.invariant.tells (subst (λ (k : List Key). Opens old new k) (sym keys) c.in_ok-put_in.ensures.lists);
    }
