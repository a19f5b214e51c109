-- A list that is put in the place of two.
use Rattle.std.proofs.Common.{ℕ, zero, suc, List, [], ◌∷◌, ◌++◌, sym}
use Rattle.std.specs.Prelude.{slice_set, remove}
use Rattle.std.specs.List.{AllByRecursion}
use Rattle.list_lemmas.proofs.Each.{each_at_middle, each_of_set, each_of_removed, each_of_front}
use Rattle.history_model.specs.InOrder.{IsAscending}
use Rattle.segment.specs.declared.place.RowPlace.{RowPlace}
use Rattle.as_of_index.specs.Places.{place_cmp, EachApart, ArePlaces}
use Rattle.as_of_index.specs.Private.Search.{ShareNoKey}
use Rattle.index_support.proofs.Apart.{apart_each}

apart_front : (index : List (List RowPlace)) (list : List RowPlace) → EachApart (index ++ list ∷ []) → EachApart index
apart_front [] list a = tt
apart_front (places ∷ index) list a = (each_of_front (λ others. ShareNoKey places others) index (list ∷ []) a.0, apart_front index list a.1)

other_way : (list : List RowPlace) (index : List (List RowPlace)) → AllByRecursion (λ places. ShareNoKey places list) index → AllByRecursion (λ others. ShareNoKey list others) index
other_way list [] all = tt
other_way list (places ∷ index) all = (λ p q h k e. all.0 q p k h (sym e), other_way list index all.1)

apart_set : (index : List (List RowPlace)) (i : ℕ) (list : List RowPlace) → EachApart index → AllByRecursion (λ places. ShareNoKey places list) index → EachApart (slice_set index i list)
apart_set [] i list each all = tt
apart_set (places ∷ index) zero list each all = (other_way list index all.1, each.1)
apart_set (places ∷ index) (suc i) list each all =
    (each_of_set (λ others. ShareNoKey places others) index i list each.0 all.0, apart_set index i list each.1 all.1)

apart_removed : (index : List (List RowPlace)) (j : ℕ) → EachApart index → EachApart (remove index j)
apart_removed [] zero each = tt
apart_removed [] (suc j) each = tt
apart_removed (places ∷ index) zero each = each.1
apart_removed (places ∷ index) (suc j) each = (each_of_removed (λ others. ShareNoKey places others) index j each.0, apart_removed index j each.1)

-- where it may be added to the lists, it may be put in the place of two of them
pub replaced_places : (index : List (List RowPlace)) (i j : ℕ) (list : List RowPlace) → ArePlaces (index ++ list ∷ []) → ArePlaces (remove (slice_set index i list) j)
replaced_places index i j list are =
    let P = λ (places : List RowPlace). IsAscending place_cmp places in
    let up = each_of_set P index i list (each_of_front P index (list ∷ []) are.ascending) (each_at_middle P index list [] are.ascending) in
    let apart = apart_set index i list (apart_front index list are.apart) (apart_each index list are.apart) in
    record { ascending = each_of_removed P (slice_set index i list) j up; apart = apart_removed (slice_set index i list) j apart }
