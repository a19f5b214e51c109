-- Lists of places that are added to an index.
use Rattle.std.proofs.Common.{◌≡◌, ℕ, ◌+◌, ◌<◌, List, [], ◌∷◌, ◌++◌, take, drop, get_or, length, refl, sym, ap, subst, inl, inr, ◌∙◌}
use Rattle.std.specs.List.{AllByRecursion}
use Rattle.std.proofs.lemmas.List.{take-append-drop}
use Rattle.list_lemmas.proofs.Each.{each_of_pushed, each_at_middle}
use Rattle.list_lemmas.proofs.Parts.{take_one_more}
use Rattle.history_model.specs.InOrder.{Has, IsAscending}
use Rattle.history_model.proofs.InOrder.{Has-append_left, Has-append_right, Has-append_cases}
use Rattle.segment.specs.declared.place.RowPlace.{RowPlace}
use Rattle.as_of_index.specs.Places.{place_cmp, EachApart, ArePlaces}
use Rattle.as_of_index.specs.Private.Search.{ShareNoKey}

pub Has-taken : {X : Type 0} (xs : List X) (i : ℕ) (x : X) → i < length xs → x ≡ get_or xs i x → Has xs x
Has-taken xs i x lt is =
    subst (λ ys. Has ys x) (take-append-drop (i + 1) xs) (Has-append_left (take (i + 1) xs) (drop (i + 1) xs) x (subst (λ ys. Has ys x) (sym (take_one_more xs i x lt is)) (Has-append_right (take i xs) (x ∷ []) x (inl refl))))

-- ---- one list

pub none_shared : (list other : List RowPlace) (p : RowPlace) → ShareNoKey list other → ((q : RowPlace) → Has other q → p.key ≡ q.key → ⊥) → ShareNoKey (list ++ p ∷ []) other
none_shared list other p apart new = λ a b h k e. elim (Has-append_cases list (p ∷ []) a h) [
  | inl l ↦ apart a b l k e
  | inr r ↦ elim r [ inl s ↦ new b k (ap (λ (q : RowPlace). q.key) s ∙ e) | inr t ↦ absurd t ]
]

-- ---- one list more

apart_push : (index : List (List RowPlace)) (list : List RowPlace) → EachApart index → AllByRecursion (λ places. ShareNoKey places list) index → EachApart (index ++ list ∷ [])
apart_push [] list a each = (tt, tt)
apart_push (places ∷ index) list a each = (each_of_pushed (λ others. ShareNoKey places others) index list a.0 each.0, apart_push index list a.1 each.1)

pub apart_each : (index : List (List RowPlace)) (list : List RowPlace) → EachApart (index ++ list ∷ []) → AllByRecursion (λ places. ShareNoKey places list) index
apart_each [] list a = tt
apart_each (places ∷ index) list a = (each_at_middle (λ others. ShareNoKey places others) index list [] a.0, apart_each index list a.1)

pub places_push : (index : List (List RowPlace)) (list : List RowPlace) → ArePlaces index → IsAscending place_cmp list → AllByRecursion (λ places. ShareNoKey places list) index → ArePlaces (index ++ list ∷ [])
places_push index list are up each = record { ascending = each_of_pushed (λ places. IsAscending place_cmp places) index list are.ascending up; apart = apart_push index list are.apart each }
