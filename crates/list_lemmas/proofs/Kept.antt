-- What a test keeps of a list, and what it finds there.
use Rattle.std.proofs.Common.{◌≡◌, ◌≤◌, List, [], ◌∷◌, length, map, Some, Bool, true, false, cond, suc, refl, ap, ◌∙◌, subst, arith}
use Rattle.std.specs.Prelude.{◌&&◌}
use Rattle.std.specs.List.{filter, find}
use Rattle.std.proofs.lemmas.List.Sums.{length-filter, count_by-le-length}

-- a test keeps no more than there are
pub kept_at_most : {X : Type 0} (p : X → Bool) (xs : List X) → length (filter p xs) ≤ length xs
kept_at_most p xs = omega (arith, length-filter p xs, count_by-le-length p xs)

-- as many are kept of what a function makes as there are of which it makes something that is kept
pub length-filter-map : {X Y : Type 0} (f : X → Y) (p : Y → Bool) (xs : List X)
    → length (filter p (map f xs)) ≡ length (filter (λ x. p (f x)) xs)
length-filter-map f p [] = refl
length-filter-map f p (x ∷ xs) =
    elim (p (f x)) as (λ t. length (cond t (f x ∷ filter p (map f xs)) (filter p (map f xs))) ≡ length (cond t (x ∷ filter (λ y. p (f y)) xs) (filter (λ y. p (f y)) xs))) [
      | true ↦ ap suc (length-filter-map f p xs)
      | false ↦ length-filter-map f p xs
    ]

-- what is found passes
pub found_passes : {X : Type 0} (p : X → Bool) (xs : List X) (x : X) → find p xs ≡ Some x
    → p x ≡ true
found_passes p [] x found = absurd cc
found_passes p (y ∷ xs) x found =
    elim (p y) as (λ t. p y ≡ t → cond t (Some y) (find p xs) ≡ Some x → p x ≡ true) [
      | true ↦ λ passes e. let same : y ≡ x = cc in subst (λ z. p z ≡ true) same passes
      | false ↦ λ fails e. found_passes p xs x e
    ] refl found

-- what passes two tests is what passes one of what passes the other
pub filter_of_both : {X : Type 0} (p q both : X → Bool) (xs : List X)
    → ((x : X) → both x ≡ (p x && q x)) → filter both xs ≡ filter q (filter p xs)
filter_of_both p q both [] each = refl
filter_of_both p q both (x ∷ xs) each =
    let rest = filter_of_both p q both xs each in
    elim (p x) as (λ b. p x ≡ b → cond (both x) (x ∷ filter both xs) (filter both xs) ≡ filter q (cond b (x ∷ filter p xs) (filter p xs))) [
      | true ↦ λ e. let f : both x ≡ q x = each x ∙ ap (λ b. b && q x) e in rw (f, rest) refl
      | false ↦ λ e. let f : both x ≡ false = each x ∙ ap (λ b. b && q x) e in rw f rest
    ] refl
