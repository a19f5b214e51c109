use Rattle.std.proofs.Common.{◌≡◌, ◌+◌, ◌-◌, ◌≤◌}
use Rattle.history_model.specs.InOrder.{ShareNone}
use Rattle.segment.specs.declared.place.RowPlace.{RowPlace}
use Rattle.as_of_index.specs.Numbers.{TwoLists, KnownNumbers, AreKnown, IsKept, count_unknown}
use Rattle.as_of_index.proofs.number_table.NumberTable.extend.Given as goal

abbrev pub invariant-loop : goal.invariant-loop
invariant-loop l =
    let lists : TwoLists = record { first = l.first; second = l.second } in
    let known : KnownNumbers = record { first = l.self-inside.first.items; second = l.self-inside.second.items } in
    AreKnown lists known × IsKept l.fn.self known × (count_unknown lists l.fn.self ≤ count_unknown lists known + l.counter)
    × (ShareNone (λ (p : RowPlace). p.key) l.first l.second → count_unknown lists known ≡ count_unknown lists l.fn.self - l.counter)
