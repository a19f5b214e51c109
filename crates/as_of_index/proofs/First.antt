-- The first so many of a list, where an element is put in its order.
use Rattle.std.proofs.Common.{◌≡◌, ◌⊎◌, ℕ, zero, suc, ◌≤◌, Bool, true, false, List, [], ◌∷◌, length, get_or, take, refl, sym, ap, subst, inl, inr, ◌∙◌, arith}
use Rattle.std.specs.Prelude.{Some, slice_get, insert}
use Rattle.std.specs.List.{AllByRecursion}
use Rattle.std.specs.List.Sorted.{IsPartitionedBy}
use Rattle.std.specs.Cmp.{IsTotalOrder}
use Rattle.std.specs.declared.cmp.Ordering.{Ordering}
use Rattle.std.specs.declared.cmp.Ordering.TheVariants.{Less, Equal, Greater}
use Rattle.history_model.specs.InOrder.{Has, IsAscending, placed, put}
use Rattle.history_model.proofs.InOrder.{Has-all, not_both, not_below_itself}
use Rattle.history_model.proofs.Items.{Has-get_or}
use Rattle.as_of_index.specs.Private.Search.{SplitsAt}

module _ {X : Type 0} {cmp : X → X → Ordering} (o : IsTotalOrder cmp) where
  -- one that isn't among the first n is above them, and they are n
  pub taken_or_above : (n : ℕ) (xs : List X) (x : X) → IsAscending cmp xs → Has xs x → Has (take n xs) x ⊎ ((n ≤ length (take n xs)) × ((y : X) → Has (take n xs) y → cmp y x ≡ Less))
  taken_or_above zero xs x up h = inr (omega arith, λ y k. absurd k)
  taken_or_above (suc n) [] x up h = absurd h
  taken_or_above (suc n) (z ∷ zs) x up h = elim h [
    | inl e ↦ inl (inl e)
    | inr t ↦ elim (taken_or_above n zs x up.1 t) [
      | inl l ↦ inl (inr l)
      | inr r ↦ inr (
        let le = r.0 in omega arith,
        λ y k. elim k [ inl e ↦ subst (λ w. cmp w x ≡ Less) e (Has-all (λ w. cmp z w ≡ Less) zs x up.0 t) | inr s ↦ r.1 y s ],
      )
    ]
  ]

  -- the least n of some, in order, are the first n of them
  pub same_first : (n : ℕ) (xs ys : List X) → IsAscending cmp xs → IsAscending cmp ys → length xs ≤ n → ((z : X) → Has xs z → Has ys z)
      → ((z : X) → Has ys z → Has xs z ⊎ ((n ≤ length xs) × ((y : X) → Has xs y → cmp y z ≡ Less))) → xs ≡ take n ys
  same_first zero [] ys a b few f g = refl
  same_first zero (x ∷ xs) ys a b few f g = absurd (omega arith)
  same_first (suc n) [] [] a b few f g = refl
  same_first (suc n) [] (y ∷ ys) a b few f g = elim (g y (inl refl)) [ inl l ↦ absurd l | inr r ↦ absurd (let le = r.0 in omega arith) ]
  same_first (suc n) (x ∷ xs) [] a b few f g = absurd (f x (inl refl))
  same_first (suc n) (x ∷ xs) (y ∷ ys) a b few f g =
      let first : x ≡ y = elim (f x (inl refl)) [
        | inl e ↦ sym e
        | inr t ↦
            let low = Has-all (λ z. cmp y z ≡ Less) ys x b.0 t in
            elim (g y (inl refl)) [
              | inl h ↦ elim h [ inl e ↦ e | inr s ↦ absurd (not_both o x y (Has-all (λ z. cmp x z ≡ Less) xs y a.0 s) low) ]
              | inr r ↦ absurd (not_both o x y (r.1 x (inl refl)) low)
            ]
      ] in
      let there : (z : X) → Has xs z → Has ys z = λ z h. elim (f z (inr h)) [
        | inl e ↦ absurd (not_below_itself o z (subst (λ w. cmp w z ≡ Less) (first ∙ e) (Has-all (λ w. cmp x w ≡ Less) xs z a.0 h)))
        | inr t ↦ t
      ] in
      let back : (z : X) → Has ys z → Has xs z ⊎ ((n ≤ length xs) × ((w : X) → Has xs w → cmp w z ≡ Less)) = λ z h. elim (g z (inr h)) [
        | inl k ↦ elim k [
          | inl e ↦ absurd (not_below_itself o z (subst (λ w. cmp w z ≡ Less) (sym first ∙ e) (Has-all (λ w. cmp y w ≡ Less) ys z b.0 h)))
          | inr t ↦ inl t
        ]
        | inr r ↦ inr (let le = r.0 in omega arith, λ w k. r.1 w (inr k))
      ] in
      let rest = same_first n xs ys a.1 b.1 (omega arith) there back in
      λ i. first i ∷ rest i

-- ---- where an element is put

module _ {X : Type 0} (cmp : X → X → Ordering) (k : X) (p : X → Bool) (high : (j : X) → p j ≡ true → cmp k j ≡ Greater) where
  pub put_there : (ys : List X) (i : ℕ) (j : X) → SplitsAt p ys i → slice_get ys i ≡ Some j → cmp k j ≡ Equal → put cmp k ys ≡ ys
  put_there [] i j w e tie = absurd (cc)
  put_there (y ∷ ys) zero j w e tie =
      let same : y ≡ j = cc in
      let here : cmp k y ≡ Equal = subst (λ z. cmp k z ≡ Equal) (sym same) tie in
      ap (λ r. placed r k y ys (put cmp k ys)) here
  put_there (y ∷ ys) (suc i) j w e tie =
      ap (λ r. placed r k y ys (put cmp k ys)) (high y w.before.0) ∙ ap (λ zs. y ∷ zs) (put_there ys i j (record { before = w.before.1; rest = w.rest }) e tie)

  pub put_new : (ys : List X) (i : ℕ) → i ≤ length ys → SplitsAt p ys i → ((j : X) → slice_get ys i ≡ Some j → cmp k j ≡ Less) → put cmp k ys ≡ insert ys i k
  put_new [] zero le w low = refl
  put_new [] (suc i) le w low = absurd (omega arith)
  put_new (y ∷ ys) zero le w low = ap (λ r. placed r k y ys (put cmp k ys)) (low y refl)
  put_new (y ∷ ys) (suc i) le w low =
      ap (λ r. placed r k y ys (put cmp k ys)) (high y w.before.0) ∙ ap (λ zs. y ∷ zs) (put_new ys i (omega arith) (record { before = w.before.1; rest = w.rest }) low)

pub length-put : {X : Type 0} (cmp : X → X → Ordering) (k : X) (ys : List X) → length ys ≤ length (put cmp k ys)
length-put cmp k [] = omega arith
length-put cmp k (y ∷ ys) =
    elim (cmp k y) as (λ r. length (y ∷ ys) ≤ length (placed r k y ys (put cmp k ys))) [
      | Less ↦ omega arith
      | Equal ↦ omega arith
      | Greater ↦ (let le = length-put cmp k ys in omega arith)
    ]

-- ---- where it is searched

pub gone_on : {X : Type 0} (p : X → Bool) (x : X) (xs : List X) → AllByRecursion (λ y. p y ≡ true → p x ≡ true) xs → p x ≡ true ⊎ AllByRecursion (λ y. p y ≡ true → ⊥) xs
gone_on p x [] a = inr tt
gone_on p x (y ∷ ys) a = elim (p y) as (λ b. p y ≡ b → p x ≡ true ⊎ AllByRecursion (λ y. p y ≡ true → ⊥) (y ∷ ys)) [
  | true ↦ λ e. inl (a.0 e)
  | false ↦ λ e. elim (gone_on p x ys a.1) [ inl l ↦ inl l | inr r ↦ inr (λ f. absurd (cc), r) ]
] refl

-- where one passes each before it does
abbrev pub Falls : {X : Type 0} → (X → Bool) → List X → Type 0
Falls p [] = Unit {0}
Falls p (x ∷ xs) = AllByRecursion (λ y. p y ≡ true → p x ≡ true) xs × Falls p xs

pub parted : {X : Type 0} (p : X → Bool) (xs : List X) → Falls p xs → IsPartitionedBy p xs
parted p [] f i j d le lt e = absurd (omega arith)
parted p (x ∷ xs) f zero zero d le lt e = e
parted p (x ∷ xs) f zero (suc j) d le lt e = Has-all (λ y. p y ≡ true → p x ≡ true) xs (get_or xs j d) f.0 (Has-get_or xs j d (omega arith)) e
parted p (x ∷ xs) f (suc i) zero d le lt e = absurd (omega arith)
parted p (x ∷ xs) f (suc i) (suc j) d le lt e = parted p xs f.1 i j d (omega arith) (omega arith) e
