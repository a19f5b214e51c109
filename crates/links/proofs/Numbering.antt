-- Postings by what they are of, and of several lists with the numbers of these.
use Rattle.std.proofs.Common.{◌≡◌, ℕ, ◌+◌, ◌<◌, true, false, List, [], ◌∷◌, ◌++◌, length, get_or, take, drop, map, sym, ap, subst, inl, inr, ◌∙◌, arith, take-append-drop, append-nil, append_assoc}
use Rattle.std.specs.Prelude.{nat_lt, nat_le}
use Rattle.std.proofs.lemmas.Bool.Decides.{nat_tests}
use Rattle.std.proofs.lemmas.List.{length-take, length-map, map_push}
use Rattle.list_lemmas.proofs.Parts.{take_one_more}
use Rattle.history_model.specs.InOrder.{Has}
use Rattle.history_model.proofs.InOrder.{Has-all, Has-append_left, Has-append_right, Has-append_cases}
use Rattle.history_model.proofs.Filtered.{Has-map}
use Rattle.as_of_index.specs.Private.Search.{SplitsAt}
use Rattle.as_of_index.specs.Private.Postings.{numbered}

-- ---- those of d stand between those of lower and those of higher numbers

module _ {X : Type 0} (of : X → ℕ) (list : List X) (d first count : ℕ) (low : SplitsAt (λ x. nat_lt (of x) d) list first) (high : SplitsAt (λ x. nat_le (of x) d) (drop first list) count) where
  not_lower : (x : X) → of x ≡ d → nat_lt (of x) d ≡ true → ⊥
  not_lower x e lt = grind (arith, nat_tests, lt)

  not_higher : (x : X) → of x ≡ d → nat_le (of x) d ≡ false → ⊥
  not_higher x e gt = grind (arith, nat_tests, gt)

  between : (m : ℕ) → nat_le m d ≡ true → nat_lt m d ≡ false → m ≡ d
  between m le ge = grind (arith, nat_tests, le, ge)

  pub those_from : (x : X) → Has (take count (drop first list)) x → Has list x × (of x ≡ d)
  those_from x h =
      let inside : Has (drop first list) x = subst (λ xs. Has xs x) (take-append-drop count (drop first list)) (Has-append_left (take count (drop first list)) (drop count (drop first list)) x h) in (
        subst (λ xs. Has xs x) (take-append-drop first list) (Has-append_right (take first list) (drop first list) x inside),
        between (of x) (Has-all (λ y. nat_le (of y) d ≡ true) (take count (drop first list)) x high.before h) (Has-all (λ y. nat_lt (of y) d ≡ false) (drop first list) x low.rest inside),
      )

  pub those_all : (x : X) → Has list x → of x ≡ d → Has (take count (drop first list)) x
  those_all x h e = elim (Has-append_cases (take first list) (drop first list) x (subst (λ xs. Has xs x) (sym (take-append-drop first list)) h)) [
    | inl a ↦ absurd (not_lower x e (Has-all (λ y. nat_lt (of y) d ≡ true) (take first list) x low.before a))
    | inr b ↦ elim (Has-append_cases (take count (drop first list)) (drop count (drop first list)) x (subst (λ xs. Has xs x) (sym (take-append-drop count (drop first list))) b)) [
      | inl c ↦ c
      | inr f ↦ absurd (not_higher x e (Has-all (λ y. nat_le (of y) d ≡ false) (drop count (drop first list)) x high.rest f))
    ]
  ]

-- ---- one list more

abbrev pub in_list : {X : Type 0} → ℕ → List X → List (ℕ × X)
in_list n xs = map (λ x. (n, x)) xs

pub one_of : {X : Type 0} (n : ℕ) (xs : List X) (x : ℕ × X) → Has (in_list n xs) x → (y : X) × Has xs y × (x ≡ (n, y))
one_of {X} n xs x h = let m = Has-map (λ (y : X). (n, y)) xs x h in (m.0, m.1, sym m.2)

numbered-push : {X : Type 0} (n : ℕ) (lists : List (List X)) (xs : List X) → numbered n (lists ++ xs ∷ []) ≡ numbered n lists ++ in_list (n + length lists) xs
numbered-push n [] xs = append-nil (in_list n xs) ∙ ap (λ k. in_list k xs) (omega arith)
numbered-push n (ys ∷ lists) xs =
    ap (λ zs. in_list n ys ++ zs) (numbered-push (n + 1) lists xs ∙ ap (λ k. numbered (n + 1) lists ++ in_list k xs) (omega arith))
    ∙ sym (append_assoc (in_list n ys) (numbered (n + 1) lists) (in_list (n + length (ys ∷ lists)) xs))

module _ {X E : Type 0} (of : E → List X) where
  taken_len : (es : List E) (i : ℕ) → i < length es → 0 + length (map of (take i es)) ≡ i
  taken_len es i lt = let e = length-take i es in let f = length-map (take i es) of in grind (arith, e, f)

  pub numbered-more : (es : List E) (i : ℕ) (e : E) → i < length es → e ≡ get_or es i e → numbered 0 (map of (take (i + 1) es)) ≡ numbered 0 (map of (take i es)) ++ in_list i (of e)
  numbered-more es i e lt is =
      ap (λ xs. numbered 0 (map of xs)) (take_one_more es i e lt is)
      ∙ ap (numbered 0) (map_push of (take i es) e)
      ∙ numbered-push 0 (map of (take i es)) (of e)
      ∙ ap (λ k. numbered 0 (map of (take i es)) ++ in_list k (of e)) (taken_len es i lt)
