use Rattle.std.proofs.Common.{length, map, ap, sym, ◌∙◌, subst}
use Rattle.std.specs.BinaryHeap.{heap_items}
use Rattle.std.proofs.lemmas.List.{length-map}
use Rattle.history_model.specs.InOrder.{IsAscending}
use Rattle.rf2_values.specs.Key.{key_cmp}
use Rattle.segment.specs.declared.place.RowPlace.{RowPlace}
use Rattle.store_image.specs.declared.apart.Rest.{Rest}
use Rattle.store_image.specs.Private.Keys.{keys_of, keys_in}
use Rattle.store_image.proofs.KeysOnce.{no_keys, opens_none, opens_put, open_still, left_put}
use Rattle.store_image.proofs.apart.put_in.Goals as goal

pub returns-in_default-clause-lists : goal.returns-in_default-clause-lists
returns-in_default-clause-lists c = opens_none (map keys_in (heap_items c.args.rests.now)) (keys_of c.args.list.now) (no_keys c.args.list.now c.in_default.ensures.cases)

pub returns-in-Ok-clause-rests : goal.returns-in-Ok-clause-rests
returns-in-Ok-clause-rests c =
    let rest : Rest = record { first = c.in-Some.first.now.key; places = c.in-Some.places } in
    open_still (heap_items c.args.rests.now) (heap_items c.push.new.self) rest c.in-Ok.ensures.permutation c.requires.rests (subst (IsAscending key_cmp) (ap keys_of c.in-Some.ensures.cases.0) c.requires.ascending) c.in-Ok.ensures.heap_order

pub returns-in-Ok-clause-lists : goal.returns-in-Ok-clause-lists
returns-in-Ok-clause-lists c =
    let rest : Rest = record { first = c.in-Some.first.now.key; places = c.in-Some.places } in
    opens_put (heap_items c.args.rests.now) (heap_items c.push.new.self) rest c.in-Ok.ensures.permutation (keys_of c.args.list.now) (ap keys_of c.in-Some.ensures.cases.0)

pub returns-in-Ok-clause-left : goal.returns-in-Ok-clause-left
returns-in-Ok-clause-left c =
    let rest : Rest = record { first = c.in-Some.first.now.key; places = c.in-Some.places } in
    left_put (heap_items c.args.rests.now) (heap_items c.push.new.self) rest c.in-Ok.ensures.permutation c.args.list.now (sym (length-map c.args.list.now (λ (p : RowPlace). p.key)) ∙ ap length (ap keys_of c.in-Some.ensures.cases.0))
