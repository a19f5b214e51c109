-- Lists in which each key stands once, in any order.
use Rattle.std.proofs.Common.{◌≡◌, ◌⊎◌, inl, inr, ℕ, zero, suc, ◌<◌, List, [], ◌∷◌, length, get_or, refl, sym, ap, ◌∙◌, subst, arith}
use Rattle.std.specs.List.{AllByRecursion, swap}
use Rattle.std.specs.List.Sorted.{IsPermutation}
use Rattle.std.proofs.lemmas.Bool.{cases_eq}
use Rattle.std.proofs.lemmas.List.Edits.{Swapped, swapped_from_swap, length-swap}
use Rattle.std.proofs.lemmas.List.Sorted.{IsPermutation-keeps}
use Rattle.list_lemmas.proofs.Each.{each_at_place}
use Rattle.rf2_values.specs.declared.key.Key.{Key}
use Rattle.store_image.specs.Private.Keys.{AreDisjoint, EachKeyOnce}

pub turned : (ks ls : List Key) → AreDisjoint ks ls → AreDisjoint ls ks
turned ks ls apart = λ key h k. apart key k h

all_from_get : {X : Type 0} (P : X → Type 0) (xs : List X) (d : X) → ((i : ℕ) → i < length xs → P (get_or xs i d)) → AllByRecursion P xs
all_from_get P [] d each = tt
all_from_get P (x ∷ xs) d each = (each 0 (omega arith), all_from_get P xs d (λ i lt. each (suc i) (omega (arith, lt))))

-- by places: two lists at different places share no key
abbrev EachApartAt : List (List Key) → Type 0
EachApartAt lists = (i j : ℕ) → (i ≡ j → ⊥) → i < length lists → j < length lists → AreDisjoint (get_or lists i []) (get_or lists j [])

at_from_once : (lists : List (List Key)) → EachKeyOnce lists → EachApartAt lists
at_from_once [] once i j other lt below = absurd (omega (arith, lt))
at_from_once (ks ∷ lists) once zero zero other lt below = absurd (other refl)
at_from_once (ks ∷ lists) once zero (suc j) other lt below = each_at_place (AreDisjoint ks) lists j [] (omega (arith, below)) once.0
at_from_once (ks ∷ lists) once (suc i) zero other lt below = turned ks (get_or lists i []) (each_at_place (AreDisjoint ks) lists i [] (omega (arith, lt)) once.0)
at_from_once (ks ∷ lists) once (suc i) (suc j) other lt below = at_from_once lists once.1 i j (λ e. other (ap suc e)) (omega (arith, lt)) (omega (arith, below))

once_from_at : (lists : List (List Key)) → EachApartAt lists → EachKeyOnce lists
once_from_at [] apart = tt
once_from_at (ks ∷ lists) apart = (
  all_from_get (AreDisjoint ks) lists [] (λ j lt. apart 0 (suc j) (λ e. absurd (omega (arith, e))) (omega arith) (omega (arith, lt))),
  once_from_at lists (λ i j other lt below. apart (suc i) (suc j) (λ e. other (omega (arith, e))) (omega (arith, lt)) (omega (arith, below))),
)

-- where the list at a place stood before two of them changed places
record CameFrom (old new : ℕ → List Key) (a b i : ℕ) : Type 0 where
  from : ℕ
  same : new i ≡ old from
  how : ((i ≡ a) × (from ≡ b)) ⊎ (((i ≡ b) × (from ≡ a)) ⊎ ((i ≡ a → ⊥) × (i ≡ b → ⊥) × (from ≡ i)))

came : (old new : ℕ → List Key) (a b : ℕ) → Swapped old new a b → (i : ℕ) → CameFrom old new a b i
came old new a b swapped i = elim (cases_eq i a) [
  | inl is ↦ record { from = b; same = ap new is ∙ swapped.0; how = inl (is, refl) }
  | inr not ↦ elim (cases_eq i b) [
    | inl is ↦ record { from = a; same = ap new is ∙ swapped.1; how = inr (inl (is, refl)) }
    | inr neither ↦ record { from = i; same = swapped.2 i not neither; how = inr (inr (not, neither, refl)) }
  ]
]

module _ (old new : ℕ → List Key) (a b n : ℕ) (a_in : a < n) (b_in : b < n) where
  came_in : (i : ℕ) → i < n → (c : CameFrom old new a b i) → c.from < n
  came_in i lt c = elim c.how [
    | inl h ↦ let e = h.1 in omega (arith, e, b_in)
    | inr r ↦ elim r [
      | inl h ↦ let e = h.1 in omega (arith, e, a_in)
      | inr h ↦ let e = h.2 in omega (arith, e, lt)
    ]
  ]

  still_other : (i j : ℕ) → (i ≡ j → ⊥) → (c : CameFrom old new a b i) (d : CameFrom old new a b j) → c.from ≡ d.from → ⊥
  still_other i j other c d e = elim c.how [
    | inl h ↦ elim d.how [
      | inl k ↦ other (h.0 ∙ sym k.0)
      | inr r ↦ elim r [
        | inl k ↦ other (h.0 ∙ sym k.1 ∙ sym e ∙ h.1 ∙ sym k.0)
        | inr k ↦ k.1 (sym k.2 ∙ sym e ∙ h.1)
      ]
    ]
    | inr s ↦ elim s [
      | inl h ↦ elim d.how [
        | inl k ↦ other (h.0 ∙ sym k.1 ∙ sym e ∙ h.1 ∙ sym k.0)
        | inr r ↦ elim r [
          | inl k ↦ other (h.0 ∙ sym k.0)
          | inr k ↦ k.0 (sym k.2 ∙ sym e ∙ h.1)
        ]
      ]
      | inr h ↦ elim d.how [
        | inl k ↦ h.1 (sym h.2 ∙ e ∙ k.1)
        | inr r ↦ elim r [
          | inl k ↦ h.0 (sym h.2 ∙ e ∙ k.1)
          | inr k ↦ other (sym h.2 ∙ e ∙ k.2)
        ]
      ]
    ]
  ]

swap_apart : (lists : List (List Key)) (a b : ℕ) → a < length lists → b < length lists → EachApartAt lists → EachApartAt (swap lists a b)
swap_apart lists a b a_in b_in apart i j other lt below =
    let old : ℕ → List Key = λ k. get_or lists k [] in
    let new : ℕ → List Key = λ k. get_or (swap lists a b) k [] in
    let same = length-swap lists a b in
    let swapped = swapped_from_swap lists (swap lists a b) a b [] a_in b_in refl in
    let c = came old new a b swapped i in
    let d = came old new a b swapped j in
    let n = length lists in
    let there = apart c.from d.from (still_other old new a b n a_in b_in i j other c d) (came_in old new a b n a_in b_in i (omega (arith, lt, same)) c) (came_in old new a b n a_in b_in j (omega (arith, below, same)) d) in
    subst (λ (ks : List Key). AreDisjoint ks (new j)) (sym c.same) (subst (λ (ls : List Key). AreDisjoint (old c.from) ls) (sym d.same) there)

-- lists in another order
pub once_permuted : (lists others : List (List Key)) → IsPermutation lists others → EachKeyOnce lists → EachKeyOnce others
once_permuted lists others moved once =
    IsPermutation-keeps lists (λ l. EachKeyOnce l) once (λ l a b a_in b_in o. once_from_at (swap l a b) (swap_apart l a b a_in b_in (at_from_once l o))) others moved
