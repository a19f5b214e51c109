use Rattle.std.proofs.Common.{◌<◌, length, arith}
use Rattle.as_of_index.specs.Places.{max_lists}
use Rattle.index_support.proofs.Apart.{places_push, apart_each}
use Rattle.index_support.proofs.listed.may_add.Goals as goal

pub returns-then-lists-lt-MAX_LISTS : goal.returns-then-lists-lt-MAX_LISTS
returns-then-lists-lt-MAX_LISTS c =
    let index = c.args.index.now in
    let small : length index < max_lists = (
    let a = c.if-lists-lt-MAX_LISTS.true in
    let b = c.lists.ensures.count in
    omega arith) in (
      λ t. (small, places_push index c.args.list.now c.lists.ensures.places c.is_apart.ensures.ascending (c.is_apart.ensures.apart.0 t)),
      λ w. c.is_apart.ensures.apart.1 (apart_each index c.args.list.now w.1.apart),
    )
