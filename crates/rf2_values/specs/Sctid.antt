-- Which numbers are SNOMED CT identifiers.
use Rattle.std.specs.Prelude.{◌≡◌, ℕ, ◌+◌, ◌/◌, ◌%◌, ◌≤◌, ◌<◌, ◌^◌, ◌==◌, ◌||◌, if◌then◌else◌}
use Rattle.std.specs.Prelude.{List, [], ◌∷◌, reverse, slice_index, slice_index_or, Option, Some}
use Rattle.std.specs.Prelude.{None}
use Rattle.rf2_values.specs.declared.sctid.Class.{Class}
use Rattle.rf2_values.specs.declared.sctid.Class.TheVariants.{Concept, Description, Relationship}
use Rattle.std.specs.Int.Digits.{digits_of}

-- Verhoeff's multiplication table: the dihedral group of ten elements
abbrev pub products : List (List ℕ)
products = (0 ∷ 1 ∷ 2 ∷ 3 ∷ 4 ∷ 5 ∷ 6 ∷ 7 ∷ 8 ∷ 9 ∷ [])
    ∷ (1 ∷ 2 ∷ 3 ∷ 4 ∷ 0 ∷ 6 ∷ 7 ∷ 8 ∷ 9 ∷ 5 ∷ [])
    ∷ (2 ∷ 3 ∷ 4 ∷ 0 ∷ 1 ∷ 7 ∷ 8 ∷ 9 ∷ 5 ∷ 6 ∷ [])
    ∷ (3 ∷ 4 ∷ 0 ∷ 1 ∷ 2 ∷ 8 ∷ 9 ∷ 5 ∷ 6 ∷ 7 ∷ [])
    ∷ (4 ∷ 0 ∷ 1 ∷ 2 ∷ 3 ∷ 9 ∷ 5 ∷ 6 ∷ 7 ∷ 8 ∷ [])
    ∷ (5 ∷ 9 ∷ 8 ∷ 7 ∷ 6 ∷ 0 ∷ 4 ∷ 3 ∷ 2 ∷ 1 ∷ [])
    ∷ (6 ∷ 5 ∷ 9 ∷ 8 ∷ 7 ∷ 1 ∷ 0 ∷ 4 ∷ 3 ∷ 2 ∷ [])
    ∷ (7 ∷ 6 ∷ 5 ∷ 9 ∷ 8 ∷ 2 ∷ 1 ∷ 0 ∷ 4 ∷ 3 ∷ [])
    ∷ (8 ∷ 7 ∷ 6 ∷ 5 ∷ 9 ∷ 3 ∷ 2 ∷ 1 ∷ 0 ∷ 4 ∷ [])
    ∷ (9 ∷ 8 ∷ 7 ∷ 6 ∷ 5 ∷ 4 ∷ 3 ∷ 2 ∷ 1 ∷ 0 ∷ [])
    ∷ []

-- Verhoeff's permutations: what each digit is replaced by, at each of eight positions
abbrev pub turns : List (List ℕ)
turns = (0 ∷ 1 ∷ 2 ∷ 3 ∷ 4 ∷ 5 ∷ 6 ∷ 7 ∷ 8 ∷ 9 ∷ [])
    ∷ (1 ∷ 5 ∷ 7 ∷ 6 ∷ 2 ∷ 8 ∷ 3 ∷ 0 ∷ 9 ∷ 4 ∷ [])
    ∷ (5 ∷ 8 ∷ 0 ∷ 3 ∷ 7 ∷ 9 ∷ 6 ∷ 1 ∷ 4 ∷ 2 ∷ [])
    ∷ (8 ∷ 9 ∷ 1 ∷ 6 ∷ 0 ∷ 4 ∷ 3 ∷ 5 ∷ 2 ∷ 7 ∷ [])
    ∷ (9 ∷ 4 ∷ 5 ∷ 3 ∷ 1 ∷ 2 ∷ 6 ∷ 8 ∷ 7 ∷ 0 ∷ [])
    ∷ (4 ∷ 2 ∷ 8 ∷ 6 ∷ 5 ∷ 7 ∷ 3 ∷ 9 ∷ 0 ∷ 1 ∷ [])
    ∷ (2 ∷ 7 ∷ 9 ∷ 3 ∷ 8 ∷ 0 ∷ 6 ∷ 4 ∷ 1 ∷ 5 ∷ [])
    ∷ (7 ∷ 0 ∷ 4 ∷ 6 ∷ 9 ∷ 1 ∷ 3 ∷ 2 ∷ 5 ∷ 8 ∷ [])
    ∷ []

-- the entry of a table at a row and a column
abbrev pub entry : List (List ℕ) → ℕ → ℕ → ℕ
entry table row column = slice_index (slice_index_or table row []) column

-- the check after further digits, taken from the right, at the positions from `i` on
unfoldable pub check_from : ℕ → ℕ → List ℕ → ℕ
check_from i check [] = check
check_from i check (digit ∷ digits) =
    check_from (i + 1) (entry products check (entry turns (i % 8) digit)) digits

-- Verhoeff's check of a whole number: 0 if its last digit is right
abbrev pub check_digits : ℕ → ℕ
check_digits n = check_from 0 0 (reverse (digits_of 10 n))

-- six to eighteen digits, the last of which is right
pub record IsSctid (n : ℕ) : Type 0 where
  pub low : 10 ^ 5 ≤ n
  pub high : n < 10 ^ 18
  pub checked : check_digits n ≡ 0

-- what a partition, the two digits before the last, identifies
abbrev pub class_of_partition : ℕ → Option Class
class_of_partition partition =
    if partition == 0 || partition == 10 then Some Concept
    else if partition == 1 || partition == 11 then Some Description
    else if partition == 2 || partition == 12 then Some Relationship
    else None

abbrev pub class_of : ℕ → Option Class
class_of n = class_of_partition (n / 10 % 100)
