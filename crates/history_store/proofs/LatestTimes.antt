-- The greatest effective time: of lists that grow, and of rows where it is known of their places.
use Rattle.std.proofs.Common.{◌≡◌, ◌≤◌, ◌<◌, ◌+◌, ℕ, max, List, [], ◌∷◌, ◌++◌, map, take, length, get_or, slice_get, Option, Some, None, inl, inr, refl, sym, ap, subst, ◌∙◌, arith}
use Rattle.std.proofs.lemmas.Bool.Decides.{leb_tells}
use Rattle.std.proofs.lemmas.List.{take_more, append-nil}
use Rattle.rf2_values.specs.declared.key.Key.{Key}
use Rattle.history_model.specs.declared.stamped.StampedRow.{StampedRow}
use Rattle.history_model.specs.InOrder.{Has, joined}
use Rattle.history_model.specs.Lists.{AreLists, listed}
use Rattle.history_model.specs.Brought.{IsLatestDay}
use Rattle.history_model.proofs.InOrder.{Has-append_left, Has-append_right, Has-append_cases}
use Rattle.history_model.proofs.Snapshots.{Has-listed_cases, Has-listed_from}
use Rattle.segment.specs.declared.place.RowPlace.{RowPlace}
use Rattle.segment.specs.Standing.{places_of}
use Rattle.segment.proofs.Posting.{Says}
use Rattle.history_store.specs.Private.{IsLatest, later, row_time, place_time}
use Rattle.history_store.proofs.Places.{place_of_row, row_of_place, joined_more}

module _ {X : Type 0} (f : X → ℕ) where
  none_later : (a b : ℕ) (xs ys : List X) → ((x : X) → Has xs x → f x ≤ a) → ((x : X) → Has ys x → f x ≤ b) → (x : X) → Has (xs ++ ys) x → f x ≤ max a b
  none_later a b xs ys p q x h = elim (Has-append_cases xs ys x h) [
    | inl l ↦ let t = p x l in omega (arith, t)
    | inr r ↦ let t = q x r in omega (arith, t)
  ]

  one_of_it : (a b : ℕ) (xs ys : List X) → ((x : X) × Has xs x × (f x ≡ a)) → ((x : X) × Has ys x × (f x ≡ b)) → (x : X) × Has (xs ++ ys) x × (f x ≡ max a b)
  one_of_it a b xs ys p q = elim (leb_tells a b) [
    | inl t ↦ (q.0, Has-append_right xs ys q.0 q.1, omega (arith, t.1, q.2))
    | inr t ↦ (p.0, Has-append_left xs ys p.0 p.1, omega (arith, t.1, p.2))
  ]

  -- of two lists, one behind the other
  pub latest_append : (a b : Option ℕ) (xs ys : List X) → IsLatest f a xs → IsLatest f b ys → IsLatest f (later a b) (xs ++ ys)
  latest_append None b xs ys p q = subst (λ (zs : List X). IsLatest f b (zs ++ ys)) (sym p) q
  latest_append (Some a) None xs ys p q = subst (λ (zs : List X). IsLatest f (Some a) zs) (sym (ap (λ (zs : List X). xs ++ zs) q ∙ append-nil xs)) p
  latest_append (Some a) (Some b) xs ys p q = (one_of_it a b xs ys p.0 q.0, none_later a b xs ys p.1 q.1)

  pub latest_one : (x : X) → IsLatest f (Some (f x)) (x ∷ [])
  latest_one x = ((x, inl refl, refl), λ y h. elim h [ inl e ↦ let same = ap f e in omega (arith, same) | inr none ↦ absurd none ])

  -- with one more of a list
  pub latest_more : (xs : List X) (i : ℕ) (x d : X) (a : Option ℕ) → i < length xs → x ≡ get_or xs i d → IsLatest f a (take i xs) → IsLatest f (later a (Some (f x))) (take (i + 1) xs)
  latest_more xs i x d a lt is p =
      subst (λ (zs : List X). IsLatest f (later a (Some (f x))) zs) (sym (take_more xs i d lt ∙ ap (λ (y : X). take i xs ++ y ∷ []) (sym is)))
      (latest_append a (Some (f x)) (take i xs) (x ∷ []) p (latest_one x))

-- with one more list of places
pub latest_list : (index : List (List RowPlace)) (i : ℕ) (places : List RowPlace) (a b : Option ℕ) → slice_get index i ≡ Some places → IsLatest place_time a (joined (take i index)) → IsLatest place_time b places → IsLatest place_time (later a b) (joined (take (i + 1) index))
latest_list index i places a b e p q =
    subst (λ (ps : List RowPlace). IsLatest place_time (later a b) ps) (sym (joined_more index i places e)) (latest_append place_time a b (joined (take i index)) places p q)

-- ---- rows and their places

none_there : {X : Type 0} (xs : List X) → ((x : X) → Has xs x → ⊥) → xs ≡ []
none_there [] none = refl
none_there (x ∷ xs) none = absurd (none x (inl refl))

-- what is so of some is so of others of the same times
pub latest_alike : {X Y : Type 0} (f : X → ℕ) (g : Y → ℕ) (a : Option ℕ) (xs : List X) (ys : List Y) → ((x : X) → Has xs x → (y : Y) × Has ys y × (f x ≡ g y)) → ((y : Y) → Has ys y → (x : X) × Has xs x × (f x ≡ g y)) → IsLatest f a xs → IsLatest g a ys
latest_alike f g None xs ys to from none = none_there ys (λ y h. let w = from y h in subst (λ zs. Has zs w.0) none w.1)
latest_alike f g (Some day) xs ys to from p =
    let w = to p.0.0 p.0.1 in (
      (w.0, w.1, sym w.2 ∙ p.0.2),
      λ y h. let v = from y h in let low = p.1 v.0 v.1 in omega (arith, low, v.2),
    )

pub same_time : (s : StampedRow) (p : RowPlace) → Says p s → place_time p ≡ row_time s
same_time s p e = ap (λ (k : Key). k.time) e.key_is

pub latest_day : (day : Option ℕ) (rows : List StampedRow) → IsLatest row_time day rows → IsLatestDay day rows
latest_day None rows e = e
latest_day (Some day) rows e = e

-- what is so of the places of lists is so of their rows
pub latest_rows : (lists : List (List StampedRow)) (day : Option ℕ) → AreLists lists → IsLatest place_time day (joined (map places_of lists)) → IsLatestDay day (listed lists)
latest_rows lists day are e =
    latest_day day (listed lists) (latest_alike place_time row_time day (joined (map places_of lists)) (listed lists)
    (λ p h. let w = row_of_place lists p h in (w.0, Has-listed_from lists w.0 are w.1, same_time w.0 p w.2))
    (λ s h. let w = place_of_row lists s (Has-listed_cases lists s h) in (w.0, w.1, same_time s w.0 w.2))
    e)
