-- The digits of a number from the right, and the tables of the check.
use Rattle.std.proofs.Common.{◌≡◌, ℕ, zero, suc, ◌+◌, ◌/◌, ◌%◌, ◌<◌, Bool, true, ◌&&◌, ltb, List, [], ◌∷◌, get_or, refl, ap, ◌∙◌, arith}
use Rattle.std.specs.Prelude.{reverse}
use Rattle.std.specs.Int.Digits.{digits_of}
use Rattle.std.proofs.lemmas.Bool.{and_parts, ltb-true}
use Rattle.std.proofs.lemmas.Int.Digits.{digits_of_step}
use Rattle.std.proofs.lemmas.List.{reverse-append}
use Rattle.rf2_values.specs.Sctid.{products, turns, entry, check_from}

-- the digits from the right
abbrev pub from_right : ℕ → List ℕ
from_right n = reverse (digits_of 10 n)

pub from_right-step : (n : ℕ) → 0 < n → from_right n ≡ n % 10 ∷ from_right (n / 10)
from_right-step n pos = ap (λ (ds : List ℕ). reverse ds) (digits_of_step 10 n (omega arith) pos) ∙ reverse-append (digits_of 10 (n / 10)) (n % 10 ∷ [])

all_below : List ℕ → Bool
all_below [] = true
all_below (x ∷ xs) = ltb x 10 && all_below xs

below : (xs : List ℕ) (j : ℕ) → all_below xs ≡ true → get_or xs j 0 < 10
unfolding all_below
below [] j e = omega arith
below (x ∷ xs) zero e = ltb-true x 10 (and_parts _ _ e).0
below (x ∷ xs) (suc j) e = below xs j (and_parts _ _ e).1

all_rows_below : List (List ℕ) → Bool
unfolding all_below
all_rows_below [] = true
all_rows_below (row ∷ rows) = all_below row && all_rows_below rows

rows_below : (rows : List (List ℕ)) (i j : ℕ) → all_rows_below rows ≡ true → get_or (get_or rows i []) j 0 < 10
unfolding all_rows_below
rows_below [] i j e = omega arith
rows_below (row ∷ rows) zero j e = below row j (and_parts _ _ e).0
rows_below (row ∷ rows) (suc i) j e = rows_below rows i j (and_parts _ _ e).1

pub product_below : (i j : ℕ) → entry products i j < 10
unfolding all_below all_rows_below
product_below i j = rows_below products i j refl

pub turn_below : (i j : ℕ) → entry turns i j < 10
unfolding all_below all_rows_below
turn_below i j = rows_below turns i j refl

pub check_step : (i check n : ℕ) → 0 < n → check_from i check (from_right n) ≡ check_from (i + 1) (entry products check (entry turns (i % 8) (n % 10))) (from_right (n / 10))
unfolding check_from
check_step i check n pos = ap (check_from i check) (from_right-step n pos)
