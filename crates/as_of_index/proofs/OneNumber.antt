-- One number more of a table of numbers.
use Rattle.std.proofs.Common.{◌≡◌, ℕ, zero, suc, ◌+◌, ◌-◌, ◌≤◌, true, false, List, [], ◌∷◌, ◌++◌, length, take, drop, refl, sym, ap, subst, inl, inr, ◌∙◌, arith, length-append}
use Rattle.std.specs.Prelude.{Some, None, Option, slice_get}
use Rattle.std.specs.Ordering.{is_lt}
use Rattle.std.specs.declared.cmp.Ordering.TheVariants.{Less, Equal, Greater}
use Rattle.history_model.specs.InOrder.{Has, IsAscending, ShareNone}
use Rattle.history_model.proofs.InOrder.{Has-append_cases, all_from_has, below_all, not_both, above, Has-all}
use Rattle.history_model.proofs.Keys.{same_key}
use Rattle.std.proofs.lemmas.Option.{slice_get_within}
use Rattle.segment.specs.declared.place.RowPlace.{RowPlace}
use Rattle.as_of_index.specs.Places.{place_cmp}
use Rattle.as_of_index.specs.Numbers.{TwoLists, number_in_both, count_below, AreNumbersOf, AreBelow, AreKnown}
use Rattle.as_of_index.specs.Private.Numbers.{ComesBefore}
use Rattle.as_of_index.proofs.Counted.{count_at}
use Rattle.as_of_index.proofs.Keyed.{has_got}
use Rattle.as_of_index.proofs.Turns.{take_one, has_there, has_more}
use Rattle.as_of_index.proofs.Ordered.{places_total}

not_below : (p q : RowPlace) → place_cmp p q ≡ Less → is_lt (place_cmp q p) ≡ false
not_below p q less =
    elim (place_cmp q p) as (λ r. place_cmp q p ≡ r → is_lt r ≡ false) [
      | Less ↦ λ e. absurd (not_both places_total p q less e)
      | Equal ↦ λ e. refl
      | Greater ↦ λ e. refl
    ] refl

-- below the first that is left, and so below all
below_left : (p : RowPlace) (xs : List RowPlace) (j : ℕ) → IsAscending place_cmp xs → ((q : RowPlace) → slice_get xs j ≡ Some q → place_cmp p q ≡ Less) → (q : RowPlace) → Has (drop j xs) q → place_cmp p q ≡ Less
below_left p [] zero up below q h = absurd h
below_left p [] (suc j) up below q h = absurd h
below_left p (x ∷ xs) zero up below q h =
    Has-all (λ y. place_cmp p y ≡ Less) (x ∷ xs) q (below x refl, below_all places_total p x xs (below x refl) up.0) h
below_left p (x ∷ xs) (suc j) up below q h = below_left p xs j up.1 below q h

pushed_at : {X : Type 0} (xs : List X) (m : X) (i : ℕ) (n : X) → slice_get (xs ++ m ∷ []) i ≡ Some n → (P : ℕ → X → Type 0) → ((k : ℕ) (x : X) → slice_get xs k ≡ Some x → P k x) → P (length xs) m → P i n
pushed_at [] m zero n e P old new = let same : m ≡ n = cc in subst (λ x. P 0 x) same new
pushed_at [] m (suc i) n e P old new = absurd cc
pushed_at (x ∷ xs) m zero n e P old new = let same : x ≡ n = cc in subst (λ y. P 0 y) same (old 0 x refl)
pushed_at (x ∷ xs) m (suc i) n e P old new = pushed_at xs m i n e (λ k y. P (suc k) y) (λ k y f. old (suc k) y f) new

-- what is known of one list's rows and of another's
record IsSide (own other : List RowPlace) (xs ys : List ℕ) : Type 0 where
  own_within : length xs ≤ length own
  other_within : length ys ≤ length other
  own_are : AreNumbersOf own other xs
  other_are : AreNumbersOf other own ys
  own_below : AreBelow (take (length xs) own) (drop (length ys) other)
  other_below : AreBelow (take (length ys) other) (drop (length xs) own)

turned : (own other : List RowPlace) (xs ys : List ℕ) → IsSide own other xs ys → IsSide other own ys xs
turned own other xs ys s = record { own_within = s.other_within; other_within = s.own_within; own_are = s.other_are; other_are = s.own_are; own_below = s.other_below; other_below = s.own_below }

module _ (own other : List RowPlace) (xs ys : List ℕ) (up : IsAscending place_cmp other) (s : IsSide own other xs ys) (next : ComesBefore own (length xs) other (length ys)) where
  rest : (q : RowPlace) → Has (drop (length ys) other) q → place_cmp next.p q ≡ Less
  rest = below_left next.p other (length ys) up next.below

  number_is : length xs + length ys ≡ number_in_both own other (length xs)
  number_is =
      let p = next.p in
      let count = count_at (λ (q : RowPlace). is_lt (place_cmp q p)) other (length ys) s.other_within (record {
        before = all_from_has (λ (q : RowPlace). is_lt (place_cmp q p) ≡ true) (take (length ys) other) (λ q h. ap is_lt (s.other_below q p h (has_there own (length xs) p next.there)));
        rest = all_from_has (λ (q : RowPlace). is_lt (place_cmp q p) ≡ false) (drop (length ys) other) (λ q h. not_below p q (rest q h));
      }) in
      ap (λ n. length xs + n) count ∙ sym (ap (λ (o : Option RowPlace). length xs + count_below o other) next.there)

  one_known : (n : ℕ) → n ≡ length xs + length ys → IsSide own other (xs ++ n ∷ []) ys
  one_known n is =
      let longer : length (xs ++ n ∷ []) ≡ suc (length xs) = (let e = length-append xs (n ∷ []) in omega (arith, e)) in
      let within = slice_get_within own (length xs) next.p next.there in
      record {
        own_within = omega (arith, longer, within);
        other_within = s.other_within;
        own_are = λ i m e. pushed_at xs n i m e (λ k x. x ≡ number_in_both own other k) s.own_are (is ∙ number_is);
        other_are = s.other_are;
        own_below = λ p q h k. (
            let there : Has (take (length xs) own ++ next.p ∷ []) p = subst (λ l. Has l p) (ap (λ m. take m own) longer ∙ take_one own (length xs) next.p next.there) h in
            elim (Has-append_cases (take (length xs) own) (next.p ∷ []) p there) [
              | inl o ↦ s.own_below p q o k
              | inr l ↦ elim l [ inl e ↦ subst (λ w. place_cmp w q ≡ Less) e (rest q k) | inr f ↦ absurd f ]
            ]);
        other_below = λ p q h k. s.other_below p q h (has_more own (length xs) q (subst (λ m. Has (drop m own) q) longer k));
      }

module _ (a b : List RowPlace) (up_a : IsAscending place_cmp a) (up_b : IsAscending place_cmp b) (xs ys more : List ℕ) (n : ℕ) (known : AreKnown (record { first = a; second = b }) (record { first = xs; second = ys })) where
  side : IsSide a b xs ys
  side = record { own_within = known.first_within; other_within = known.second_within; own_are = known.first; other_are = known.second; own_below = known.first_below; other_below = known.second_below }

  pub first_known : ComesBefore a (length xs) b (length ys) → n ≡ length xs + length ys → more ≡ xs ++ n ∷ [] → AreKnown (record { first = a; second = b }) (record { first = more; second = ys })
  first_known next is longer =
      let s = one_known a b xs ys up_b side next n is in
      subst (λ l. AreKnown (record { first = a; second = b }) (record { first = l; second = ys })) (sym longer)
      (record { first_within = s.own_within; second_within = s.other_within; first = s.own_are; second = s.other_are; first_below = s.own_below; second_below = s.other_below })

  pub second_known : ComesBefore b (length ys) a (length xs) → n ≡ length ys + length xs → more ≡ ys ++ n ∷ [] → AreKnown (record { first = a; second = b }) (record { first = xs; second = more })
  second_known next is longer =
      let s = one_known b a ys xs up_a (turned a b xs ys side) next n is in
      subst (λ l. AreKnown (record { first = a; second = b }) (record { first = xs; second = l })) (sym longer)
      (record { first_within = s.other_within; second_within = s.own_within; first = s.other_are; second = s.own_are; first_below = s.other_below; second_below = s.own_below })

none_known : (lists : TwoLists) → AreKnown lists (record { first = []; second = [] })
none_known lists = record {
  first_within = omega arith;
  second_within = omega arith;
  first = λ i n e. absurd cc;
  second = λ i n e. absurd cc;
  first_below = λ p q h k. absurd h;
  second_below = λ p q h k. absurd h;
}

pub none_known_yet : (lists : TwoLists) (xs ys : List ℕ) → xs ≡ [] → ys ≡ [] → AreKnown lists (record { first = xs; second = ys })
none_known_yet lists xs ys x_none y_none =
    subst (λ l. AreKnown lists (record { first = l; second = ys })) (sym x_none)
    (subst (λ l. AreKnown lists (record { first = []; second = l })) (sym y_none) (none_known lists))

-- ---- where no row comes next

past : {X : Type 0} (xs : List X) (i : ℕ) → slice_get xs i ≡ None → length xs ≤ i
past [] i e = omega arith
past (x ∷ xs) zero e = absurd cc
past (x ∷ xs) (suc i) e = let le = past xs i e in omega (arith, le)

none_before : (p : RowPlace) (other : List RowPlace) (j : ℕ) → slice_get other j ≡ None → (q : RowPlace) → slice_get other j ≡ Some q → place_cmp p q ≡ Less
none_before p other j none q there = absurd cc

this_before : (p q : RowPlace) (other : List RowPlace) (j : ℕ) → slice_get other j ≡ Some q → place_cmp p q ≡ Less → (r : RowPlace) → slice_get other j ≡ Some r → place_cmp p r ≡ Less
this_before p q other j there less r also = let same : q ≡ r = cc in subst (λ w. place_cmp p w ≡ Less) same less

-- where no key is in both lists, none is left
module _ (a b : List RowPlace) (i j : ℕ) (apart : ShareNone (λ (p : RowPlace). p.key) a b) (not_a : ComesBefore a i b j → ⊥) (not_b : ComesBefore b j a i → ⊥) where
  abbrev IsNone : Type 0
  IsNone = (length a - i) + (length b - j) ≡ 0

  not_two : (p q : RowPlace) → slice_get a i ≡ Some p → slice_get b j ≡ Some q → IsNone
  not_two p q e f = elim (place_cmp p q) as (λ r. place_cmp p q ≡ r → IsNone) [
    | Less ↦ λ g. absurd (not_a (record { p = p; there = e; below = this_before p q b j f g }))
    | Equal ↦ λ g. absurd (apart p q (has_got a i p (sym e)) (has_got b j q (sym f)) (same_key p.key q.key g))
    | Greater ↦ λ g. absurd (not_b (record { p = q; there = f; below = this_before q p a i e (above places_total p q g) }))
  ] refl

  pub none_left : (length a - i) + (length b - j) ≡ 0
  none_left = elim (slice_get a i) as (λ o. slice_get a i ≡ o → IsNone) [
    | None ↦ λ e. elim (slice_get b j) as (λ o. slice_get b j ≡ o → IsNone) [
      | None ↦ λ f. let x = past a i e in let y = past b j f in omega (arith, x, y)
      | Some q ↦ λ f. absurd (not_b (record { p = q; there = f; below = none_before q a i e }))
    ] refl
    | Some p ↦ λ e. elim (slice_get b j) as (λ o. slice_get b j ≡ o → IsNone) [
      | None ↦ λ f. absurd (not_a (record { p = p; there = e; below = none_before p b j f }))
      | Some q ↦ λ f. not_two p q e f
    ] refl
  ] refl
