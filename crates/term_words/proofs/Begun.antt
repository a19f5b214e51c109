-- Items in the order of their keys, and those whose keys begin with one.
use Rattle.std.proofs.Common.{◌≡◌, ℕ, zero, suc, Bool, true, false, List, [], ◌∷◌, take, drop, map, refl, sym, subst, inl, inr, ◌∙◌, take-append-drop}
use Rattle.std.specs.Prelude.{nat_eq}
use Rattle.std.specs.List.{AllByRecursion, starts_with}
use Rattle.std.specs.Ordering.{nat_cmp, is_lt}
use Rattle.std.specs.Cmp.Lexicographic.{slice_cmp}
use Rattle.std.proofs.lemmas.Cmp.{nat_list_cmp_total}
use Rattle.std.proofs.lemmas.List.Sorted.{ranks_by}
use Rattle.history_model.specs.InOrder.{Has}
use Rattle.history_model.proofs.InOrder.{Has-all, Has-append_left, Has-append_right, Has-append_cases}
use Rattle.as_of_index.specs.Private.Search.{SplitsAt}
use Rattle.as_of_index.proofs.First.{Falls}
use Rattle.term_prefix.specs.Terms.{TermAt}
use Rattle.term_prefix.proofs.Prefixed.{begins_above, between}
use Rattle.term_words.specs.Posted.{keyed}
use Rattle.term_words.specs.Private.{KeysRise}

module _ {X : Type 0} (f : X → List ℕ) (prefix : List ℕ) where
  abbrev pub is_under : X → Bool
  is_under x = is_lt (slice_cmp nat_cmp (f x) prefix)

  abbrev pub begins_so : X → Bool
  begins_so x = starts_with nat_eq (f x) prefix

  under-each : (x : X) (ys : List X) → AllByRecursion (λ (u : TermAt). is_lt (slice_cmp nat_cmp u.folded (f x)) ≡ false) (map (keyed 0) (map f ys)) → AllByRecursion (λ y. is_under y ≡ true → is_under x ≡ true) ys
  under-each x [] a = tt
  under-each x (y ∷ ys) a = (
    λ e. elim (is_under x) as (λ b. is_under x ≡ b → b ≡ true) [
      | true ↦ λ g. refl
      | false ↦ λ g. absurd (let h = (ranks_by nat_list_cmp_total (λ (z : List ℕ). z)).chain (f y) (f x) prefix a.0 g in let k = sym h ∙ e in cc)
    ] refl,
    under-each x ys a.1,
  )

  pub under-falls : (xs : List X) → KeysRise (map f xs) → Falls is_under xs
  under-falls [] up = tt
  under-falls (x ∷ xs) up = (under-each x xs up.0, under-falls xs up.1)

  begun-each : (x : X) (ys : List X) → is_under x ≡ false → AllByRecursion (λ (u : TermAt). is_lt (slice_cmp nat_cmp u.folded (f x)) ≡ false) (map (keyed 0) (map f ys)) → AllByRecursion (λ y. begins_so y ≡ true → begins_so x ≡ true) ys
  begun-each x [] no_lower a = tt
  begun-each x (y ∷ ys) no_lower a = (λ e. between prefix (f x) (f y) no_lower a.0 e, begun-each x ys no_lower a.1)

  pub begun-falls : (xs : List X) → KeysRise (map f xs) → AllByRecursion (λ x. is_under x ≡ false) xs → Falls begins_so xs
  begun-falls [] up rest = tt
  begun-falls (x ∷ xs) up rest = (begun-each x xs rest.0 up.0, begun-falls xs up.1 rest.1)

  pub rise-drop : (i : ℕ) (xs : List X) → KeysRise (map f xs) → KeysRise (map f (drop i xs))
  rise-drop zero xs up = up
  rise-drop (suc i) [] up = up
  rise-drop (suc i) (x ∷ xs) up = rise-drop i xs up.1

  module _ (xs : List X) (first count : ℕ) (low : SplitsAt is_under xs first) (high : SplitsAt begins_so (drop first xs) count) where
    pub begun_from : (x : X) → Has (take count (drop first xs)) x → Has xs x × (begins_so x ≡ true)
    begun_from x h =
        let inside : Has (drop first xs) x = subst (λ ys. Has ys x) (take-append-drop count (drop first xs)) (Has-append_left (take count (drop first xs)) (drop count (drop first xs)) x h) in
        (subst (λ ys. Has ys x) (take-append-drop first xs) (Has-append_right (take first xs) (drop first xs) x inside), Has-all (λ y. begins_so y ≡ true) (take count (drop first xs)) x high.before h)

    pub begun_all : (x : X) → Has xs x → begins_so x ≡ true → Has (take count (drop first xs)) x
    begun_all x h e = elim (Has-append_cases (take first xs) (drop first xs) x (subst (λ ys. Has ys x) (sym (take-append-drop first xs)) h)) [
      | inl a ↦ absurd (let lt = Has-all (λ y. is_under y ≡ true) (take first xs) x low.before a in let ge = begins_above prefix (f x) e in let z = sym lt ∙ ge in cc)
      | inr b ↦ elim (Has-append_cases (take count (drop first xs)) (drop count (drop first xs)) x (subst (λ ys. Has ys x) (sym (take-append-drop count (drop first xs))) b)) [
        | inl c ↦ c
        | inr g ↦ absurd (let gt = Has-all (λ y. begins_so y ≡ false) (drop count (drop first xs)) x high.rest g in let z = sym e ∙ gt in cc)
      ]
    ]
