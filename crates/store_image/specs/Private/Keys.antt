-- The keys of lists of places: definitions for the functions that `load` consists of.
use Rattle.std.specs.Prelude.{◌≡◌, ◌↔◌, ℕ, List, [], ◌∷◌, ◌++◌, length, map, sum_by, All}
use Rattle.std.specs.BinaryHeap.{IsHeap}
use Rattle.std.specs.Cmp.{IsTotalOrder, back_total, on_total}
use Rattle.std.specs.List.{AllByRecursion}
use Rattle.std.specs.declared.cmp.Ordering.{Ordering}
use Rattle.std.specs.declared.cmp.Ordering.TheVariants.{Less}
use Rattle.rf2_values.specs.declared.key.Key.{Key}
use Rattle.rf2_values.specs.Key.{key_cmp}
use Rattle.rf2_values.specs.Private.{keys_total}
use Rattle.history_model.specs.InOrder.{Has, IsAscending}
use Rattle.segment.specs.declared.place.RowPlace.{RowPlace}
use Rattle.store_image.specs.declared.apart.Rest.{Rest}

abbrev pub keys_of : List RowPlace → List Key
keys_of places = map (λ p. p.key) places

-- no key is in both lists
abbrev pub AreDisjoint : List Key → List Key → Type 0
AreDisjoint ks ls = (key : Key) → Has ks key → Has ls key → ⊥

-- no key is in two of the lists
abbrev pub EachKeyOnce : List (List Key) → Type 0
EachKeyOnce [] = Unit {0}
EachKeyOnce (ks ∷ lists) = AllByRecursion (AreDisjoint ks) lists × EachKeyOnce lists

-- the keys in the rest of a list
abbrev pub keys_in : Rest → List Key
keys_in rest = rest.first ∷ keys_of rest.places.now

-- the total number of keys in the rests of all lists
abbrev pub keys_left : List Rest → ℕ
keys_left rests = sum_by (λ r. length (keys_in r)) rests

-- the order of rests: the one with the smallest first key is the greatest
abbrev pub first_cmp : Rest → Rest → Ordering
first_cmp a b = key_cmp b.first a.first

-- this order is total
pub firsts_total : IsTotalOrder first_cmp
firsts_total = on_total (λ r. r.first) (back_total keys_total)

-- the rests are a heap in this order, and in each of them the keys are in ascending order
pub record AreOpen (rests : List Rest) : Type 0 where
  pub heap : IsHeap first_cmp rests
  pub each : All (λ r. IsAscending key_cmp (keys_in r)) rests

-- a list of these keys was added to the old ones: whatever lists come later, no key is in two of
-- the new lists exactly if none is in two of the old ones and this one
abbrev pub Opens : List (List Key) → List (List Key) → List Key → Type 0
Opens old new keys =
    (later : List (List Key)) → EachKeyOnce (new ++ later) ↔ EachKeyOnce (old ++ keys ∷ later)

-- `left` is what remains of the places after some whose keys are less than this one
pub record IsBehind (key : Key) (places left : List RowPlace) : Type 0 where
  pub before : List RowPlace
  pub whole : places ≡ before ++ left
  pub below : AllByRecursion (λ p. key_cmp p.key key ≡ Less) before

-- the first key isn't less than this one
abbrev pub StartsFrom : Key → List RowPlace → Type 0
StartsFrom key [] = Unit {0}
StartsFrom key (place ∷ places) = key_cmp place.key key ≡ Less → ⊥
