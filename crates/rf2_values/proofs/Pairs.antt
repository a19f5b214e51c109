-- Two digits at a step of the check.
use Rattle.std.proofs.Common.{◌≡◌, ℕ, zero, suc, ◌+◌, ◌*◌, ◌/◌, ◌%◌, ◌<◌, ◌≤◌, Bool, true, false, ◌&&◌, List, [], ◌∷◌, refl, sym, ap, ◌∙◌, ◌^◌, arith}
use Rattle.std.specs.Prelude.{◌==◌}
use Rattle.std.proofs.lemmas.Bool.{and_parts, eqb-true}
use Rattle.std.proofs.lemmas.Bool.Decides.{nat_tests}
use Rattle.rf2_values.specs.Sctid.{products, turns, entry, check_from}
use Rattle.rf2_values.proofs.Digits.{from_right, check_step, product_below, turn_below}

-- what two digits, the right one and the left one of a number below 100, come to at the places 2 i
-- and 2 i + 1
abbrev pub turned_pair : ℕ → ℕ → ℕ
turned_pair i digits = entry products (entry turns (2 * i) (digits % 10)) (entry turns (2 * i + 1) (digits / 10))

-- the same, written out
abbrev pub pairs : List (List ℕ)
pairs = (1 ∷ 2 ∷ 3 ∷ 4 ∷ 0 ∷ 9 ∷ 5 ∷ 6 ∷ 7 ∷ 8 ∷ 5 ∷ 6 ∷ 7 ∷ 8 ∷ 9 ∷ 0 ∷ 1 ∷ 2 ∷ 3 ∷ 4
    ∷ 7 ∷ 8 ∷ 9 ∷ 5 ∷ 6 ∷ 3 ∷ 4 ∷ 0 ∷ 1 ∷ 2 ∷ 6 ∷ 7 ∷ 8 ∷ 9 ∷ 5 ∷ 4 ∷ 0 ∷ 1 ∷ 2 ∷ 3
    ∷ 2 ∷ 3 ∷ 4 ∷ 0 ∷ 1 ∷ 8 ∷ 9 ∷ 5 ∷ 6 ∷ 7 ∷ 8 ∷ 9 ∷ 5 ∷ 6 ∷ 7 ∷ 2 ∷ 3 ∷ 4 ∷ 0 ∷ 1
    ∷ 3 ∷ 4 ∷ 0 ∷ 1 ∷ 2 ∷ 7 ∷ 8 ∷ 9 ∷ 5 ∷ 6 ∷ 0 ∷ 1 ∷ 2 ∷ 3 ∷ 4 ∷ 5 ∷ 6 ∷ 7 ∷ 8 ∷ 9
    ∷ 9 ∷ 5 ∷ 6 ∷ 7 ∷ 8 ∷ 1 ∷ 2 ∷ 3 ∷ 4 ∷ 0 ∷ 4 ∷ 0 ∷ 1 ∷ 2 ∷ 3 ∷ 6 ∷ 7 ∷ 8 ∷ 9 ∷ 5 ∷ [])
    ∷ (2 ∷ 0 ∷ 8 ∷ 6 ∷ 4 ∷ 1 ∷ 3 ∷ 9 ∷ 7 ∷ 5 ∷ 1 ∷ 4 ∷ 9 ∷ 7 ∷ 3 ∷ 0 ∷ 2 ∷ 5 ∷ 8 ∷ 6
    ∷ 9 ∷ 7 ∷ 1 ∷ 4 ∷ 6 ∷ 8 ∷ 5 ∷ 2 ∷ 0 ∷ 3 ∷ 4 ∷ 2 ∷ 6 ∷ 9 ∷ 1 ∷ 3 ∷ 0 ∷ 7 ∷ 5 ∷ 8
    ∷ 5 ∷ 8 ∷ 0 ∷ 3 ∷ 7 ∷ 9 ∷ 6 ∷ 1 ∷ 4 ∷ 2 ∷ 6 ∷ 9 ∷ 4 ∷ 2 ∷ 8 ∷ 5 ∷ 7 ∷ 0 ∷ 3 ∷ 1
    ∷ 7 ∷ 5 ∷ 3 ∷ 1 ∷ 9 ∷ 6 ∷ 8 ∷ 4 ∷ 2 ∷ 0 ∷ 0 ∷ 3 ∷ 5 ∷ 8 ∷ 2 ∷ 4 ∷ 1 ∷ 6 ∷ 9 ∷ 7
    ∷ 8 ∷ 6 ∷ 2 ∷ 0 ∷ 5 ∷ 7 ∷ 9 ∷ 3 ∷ 1 ∷ 4 ∷ 3 ∷ 1 ∷ 7 ∷ 5 ∷ 0 ∷ 2 ∷ 4 ∷ 8 ∷ 6 ∷ 9 ∷ [])
    ∷ (5 ∷ 3 ∷ 6 ∷ 2 ∷ 0 ∷ 1 ∷ 7 ∷ 9 ∷ 8 ∷ 4 ∷ 7 ∷ 1 ∷ 8 ∷ 0 ∷ 3 ∷ 4 ∷ 9 ∷ 6 ∷ 5 ∷ 2
    ∷ 1 ∷ 7 ∷ 2 ∷ 6 ∷ 9 ∷ 5 ∷ 3 ∷ 0 ∷ 4 ∷ 8 ∷ 3 ∷ 5 ∷ 4 ∷ 9 ∷ 7 ∷ 8 ∷ 0 ∷ 2 ∷ 1 ∷ 6
    ∷ 4 ∷ 9 ∷ 0 ∷ 8 ∷ 6 ∷ 7 ∷ 1 ∷ 3 ∷ 2 ∷ 5 ∷ 2 ∷ 6 ∷ 3 ∷ 5 ∷ 8 ∷ 9 ∷ 4 ∷ 1 ∷ 0 ∷ 7
    ∷ 6 ∷ 2 ∷ 7 ∷ 1 ∷ 4 ∷ 0 ∷ 8 ∷ 5 ∷ 9 ∷ 3 ∷ 0 ∷ 8 ∷ 1 ∷ 7 ∷ 5 ∷ 6 ∷ 2 ∷ 4 ∷ 3 ∷ 9
    ∷ 9 ∷ 4 ∷ 5 ∷ 3 ∷ 1 ∷ 2 ∷ 6 ∷ 8 ∷ 7 ∷ 0 ∷ 8 ∷ 0 ∷ 9 ∷ 4 ∷ 2 ∷ 3 ∷ 5 ∷ 7 ∷ 6 ∷ 1 ∷ [])
    ∷ (9 ∷ 0 ∷ 2 ∷ 5 ∷ 1 ∷ 7 ∷ 4 ∷ 6 ∷ 8 ∷ 3 ∷ 2 ∷ 7 ∷ 9 ∷ 3 ∷ 8 ∷ 0 ∷ 6 ∷ 4 ∷ 1 ∷ 5
    ∷ 1 ∷ 8 ∷ 5 ∷ 2 ∷ 9 ∷ 4 ∷ 7 ∷ 3 ∷ 0 ∷ 6 ∷ 8 ∷ 1 ∷ 3 ∷ 9 ∷ 2 ∷ 6 ∷ 0 ∷ 5 ∷ 7 ∷ 4
    ∷ 6 ∷ 3 ∷ 0 ∷ 7 ∷ 4 ∷ 9 ∷ 2 ∷ 8 ∷ 5 ∷ 1 ∷ 3 ∷ 6 ∷ 8 ∷ 4 ∷ 7 ∷ 1 ∷ 5 ∷ 0 ∷ 2 ∷ 9
    ∷ 0 ∷ 9 ∷ 6 ∷ 1 ∷ 5 ∷ 3 ∷ 8 ∷ 2 ∷ 4 ∷ 7 ∷ 4 ∷ 5 ∷ 7 ∷ 0 ∷ 6 ∷ 2 ∷ 9 ∷ 1 ∷ 3 ∷ 8
    ∷ 7 ∷ 2 ∷ 4 ∷ 8 ∷ 3 ∷ 5 ∷ 1 ∷ 9 ∷ 6 ∷ 0 ∷ 5 ∷ 4 ∷ 1 ∷ 6 ∷ 0 ∷ 8 ∷ 3 ∷ 7 ∷ 9 ∷ 2 ∷ [])
    ∷ []

-- what becomes of a digit at the places 0, 2, 4 and 6
abbrev pub even_turns : List (List ℕ)
even_turns = (0 ∷ 1 ∷ 2 ∷ 3 ∷ 4 ∷ 5 ∷ 6 ∷ 7 ∷ 8 ∷ 9 ∷ [])
    ∷ (5 ∷ 8 ∷ 0 ∷ 3 ∷ 7 ∷ 9 ∷ 6 ∷ 1 ∷ 4 ∷ 2 ∷ [])
    ∷ (9 ∷ 4 ∷ 5 ∷ 3 ∷ 1 ∷ 2 ∷ 6 ∷ 8 ∷ 7 ∷ 0 ∷ [])
    ∷ (2 ∷ 7 ∷ 9 ∷ 3 ∷ 8 ∷ 0 ∷ 6 ∷ 4 ∷ 1 ∷ 5 ∷ [])
    ∷ []

-- ---- all cases

each : ℕ → (ℕ → Bool) → Bool
each zero p = true
each (suc n) p = p n && each n p

at_each : (n i : ℕ) (p : ℕ → Bool) → each n p ≡ true → i < n → p i ≡ true
unfolding each
at_each zero i p e lt = absurd (omega arith)
at_each (suc n) i p e lt =
    let parts = and_parts (p n) (each n p) e in
    elim (i == n) as (λ t. (i == n) ≡ t → p i ≡ true) [
      | true ↦ λ f. ap p (eqb-true i n f) ∙ parts.0
      | false ↦ λ f. at_each n i p parts.1 (grind (arith, nat_tests, f, lt))
    ] refl

pair_is_right : ℕ → ℕ → Bool
pair_is_right i digits = entry pairs i digits == turned_pair i digits

pub pair_at : (i digits : ℕ) → i < 4 → digits < 100 → entry pairs i digits ≡ turned_pair i digits
unfolding each pair_is_right
pair_at i digits small two =
    let row = at_each 4 i (λ i. each 100 (pair_is_right i)) refl small in
    eqb-true (entry pairs i digits) (turned_pair i digits) (at_each 100 digits (pair_is_right i) row two)

turn_is_right : ℕ → ℕ → Bool
turn_is_right i digit = entry even_turns i digit == entry turns (2 * i) digit

pub even_turn_at : (i digit : ℕ) → i < 4 → digit < 10 → entry even_turns i digit ≡ entry turns (2 * i) digit
unfolding each turn_is_right
even_turn_at i digit small one =
    let row = at_each 4 i (λ i. each 10 (turn_is_right i)) refl small in
    eqb-true (entry even_turns i digit) (entry turns (2 * i) digit) (at_each 10 digit (turn_is_right i) row one)

is_associative : ℕ → ℕ → ℕ → Bool
is_associative a b c = entry products (entry products a b) c == entry products a (entry products b c)

pub associative : (a b c : ℕ) → a < 10 → b < 10 → c < 10 → entry products (entry products a b) c ≡ entry products a (entry products b c)
unfolding each is_associative
associative a b c la lb lc =
    let for_a = at_each 10 a (λ a. each 10 (λ b. each 10 (is_associative a b))) refl la in
    let for_b = at_each 10 b (λ b. each 10 (is_associative a b)) for_a lb in
    eqb-true _ _ (at_each 10 c (is_associative a b) for_b lc)

pub even_turn_below : (i j : ℕ) → i < 4 → j < 10 → entry even_turns i j < 10
even_turn_below i j small one = let e = even_turn_at i j small one in let lt = turn_below (2 * i) j in omega arith

pub pair_below : (i j : ℕ) → i < 4 → j < 100 → entry pairs i j < 10
pair_below i j small two = let e = pair_at i j small two in let lt = product_below (entry turns (2 * i) (j % 10)) (entry turns (2 * i + 1) (j / 10)) in omega arith

-- two digits more are checked
pub pair_step : (pair check n : ℕ) → check < 10 → 10 ≤ n → check_from (2 * pair) check (from_right n) ≡ check_from (2 * (pair + 1)) (entry products check (entry pairs (pair % 4) (n % 100))) (from_right (n / 100))
pair_step pair check n small two =
    let digits = n % 100 in
    let right = entry turns (2 * (pair % 4)) (digits % 10) in
    let left = entry turns (2 * (pair % 4) + 1) (digits / 10) in
    let first_place : (2 * pair) % 8 ≡ 2 * (pair % 4) = omega arith in
    let second_place : (2 * pair + 1) % 8 ≡ 2 * (pair % 4) + 1 = omega arith in
    let next_place : 2 * pair + 1 + 1 ≡ 2 * (pair + 1) = omega arith in
    let first_digit : n % 10 ≡ digits % 10 = omega arith in
    let second_digit : n / 10 % 10 ≡ digits / 10 = omega arith in
    let rest : n / 10 / 10 ≡ n / 100 = omega arith in
    let one = check_step (2 * pair) check n (omega arith) in
    let two = check_step (2 * pair + 1) (entry products check (entry turns ((2 * pair) % 8) (n % 10))) (n / 10) (omega arith) in
    let joined = associative check right left small (turn_below (2 * (pair % 4)) (digits % 10)) (turn_below (2 * (pair % 4) + 1) (digits / 10)) in
    let written = pair_at (pair % 4) digits (omega arith) (omega arith) in
    rw (first_place, first_digit, second_place, second_digit, next_place, rest, joined, ← written) at (one ∙ two)

product_of_0 : (b : ℕ) → b < 10 → entry products 0 b ≡ b
unfolding each
product_of_0 b lt = eqb-true _ _ (at_each 10 b (λ b. entry products 0 b == b) refl lt)

-- two products of two pairs, where the pairs would follow one another
two_and_two : (a b c d : ℕ) → a < 10 → b < 10 → c < 10 → d < 10 → entry products (entry products (entry products (entry products 0 a) b) c) d ≡ entry products (entry products a b) (entry products c d)
two_and_two a b c d la lb lc ld =
    ap (λ (n : ℕ). entry products (entry products (entry products n b) c) d) (product_of_0 a la) ∙ associative (entry products a b) c d (product_below a b) lc ld

-- the last eight digits are checked
pub four_steps : (n : ℕ) → 10 ^ 8 ≤ n
    → check_from 8 (entry products (entry products (entry pairs 0 (n % 10000 % 100)) (entry pairs 1 (n % 10000 / 100))) (entry products (entry pairs 2 (n / 10000 % 10000 % 100)) (entry pairs 3 (n / 10000 % 10000 / 100)))) (from_right (n / 10 ^ 8)) ≡ check_from 0 0 (from_right n)
four_steps n more =
    let a = entry pairs 0 (n % 100) in
    let b = entry pairs 1 (n / 100 % 100) in
    let c = entry pairs 2 (n / 100 / 100 % 100) in
    let d = entry pairs 3 (n / 100 / 100 / 100 % 100) in
    let one = pair_step 0 0 n (omega arith) (omega arith) in
    let two = pair_step 1 (entry products 0 a) (n / 100) (product_below 0 a) (omega arith) in
    let three = pair_step 2 (entry products (entry products 0 a) b) (n / 100 / 100) (product_below (entry products 0 a) b) (omega arith) in
    let four = pair_step 3 (entry products (entry products (entry products 0 a) b) c) (n / 100 / 100 / 100) (product_below (entry products (entry products 0 a) b) c) (omega arith) in
    let joined = two_and_two a b c d (pair_below 0 (n % 100) (omega arith) (omega arith)) (pair_below 1 (n / 100 % 100) (omega arith) (omega arith)) (pair_below 2 (n / 100 / 100 % 100) (omega arith) (omega arith)) (pair_below 3 (n / 100 / 100 / 100 % 100) (omega arith) (omega arith)) in
    let first : n % 10000 % 100 ≡ n % 100 = omega arith in
    let second : n % 10000 / 100 ≡ n / 100 % 100 = omega arith in
    let third : n / 10000 % 10000 % 100 ≡ n / 100 / 100 % 100 = omega arith in
    let fourth : n / 10000 % 10000 / 100 ≡ n / 100 / 100 / 100 % 100 = omega arith in
    let rest : n / 10 ^ 8 ≡ n / 100 / 100 / 100 / 100 = omega arith in
    rw (first, second, third, fourth, rest, ← joined) (sym (one ∙ two ∙ three ∙ four))

-- the last digit, where there is one more, is checked
pub last_step : (pair check n : ℕ) → 0 < n → n < 10 → check_from (2 * pair) check (from_right n) ≡ entry products check (entry even_turns (pair % 4) n)
unfolding check_from
last_step pair check n some one =
    let place : (2 * pair) % 8 ≡ 2 * (pair % 4) = omega arith in
    let digit : n % 10 ≡ n = omega arith in
    let rest : n / 10 ≡ 0 = omega arith in
    let turned = even_turn_at (pair % 4) n (omega arith) one in
    rw (place, digit, rest, ← turned) at (check_step (2 * pair) check n some)
