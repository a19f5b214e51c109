-- The list of imports beside a store.
use Rattle.std.specs.Prelude.{◌≡◌, ◌≢◌, ◌≤◌, ◌<◌, ◌-◌, ◌⊎◌, ◌||◌, ℕ, Bool, List, [], ◌∷◌, ◌++◌}
use Rattle.std.specs.Prelude.{codes, decimal, length, slice_index, nat_eq}
use Rattle.std.specs.List.{starts_with}
use Rattle.hex.specs.Hex.{encode_lower}
use Rattle.history_model.specs.declared.receipt.Receipt.{Receipt}

-- the line of a column and of more, with tabs between them
abbrev pub tab_line : (first : List ℕ) → (more : List (List ℕ)) → List ℕ
tab_line first [] = first ++ 10 ∷ []
tab_line first (next ∷ more) = first ++ 9 ∷ tab_line next more

-- what a list says of an import: its number, the time, the name of the release, how many rows were
-- new and repeated, the digest of the release's files, and who asked
abbrev pub entry_line : Receipt → (time name digest who : List ℕ) → List ℕ
entry_line receipt time name digest who = tab_line (decimal receipt.number) (time ∷ name ∷
    decimal receipt.new ∷ decimal receipt.repeated ∷ digest ∷ who ∷ [])

-- the line that says that the store had only so many imports at this time
abbrev pub back_line : (imports : ℕ) → (time : List ℕ) → List ℕ
back_line imports time = tab_line (codes "back") (decimal imports ∷ time ∷ [])

-- the first line of each list
abbrev pub first_line : List ℕ
first_line = codes "sctd imports 1" ++ 10 ∷ []

-- a text begins with the first line of a list, or is what a cut leaves of it
abbrev pub is_list : List ℕ → Bool
is_list text = starts_with nat_eq text first_line || starts_with nat_eq first_line text

-- The first so many bytes of a text are whole lines: the last of them, if there is one, ends a line,
-- and behind them no line ends.
pub record AreWholeLines (text : List ℕ) (many : ℕ) : Type 0 where
  pub within : many ≤ length text
  pub whole : (many ≡ 0) ⊎ (slice_index text (many - 1) ≡ 10)
  pub no_end : (i : ℕ) → many ≤ i → i < length text → slice_index text i ≢ 10

-- what the text that is hashed for a release has for one of its files: the digits of the file's
-- SHA-256, two spaces, the path in the release's folder, and a NUL
abbrev pub file_line : (digest path : List ℕ) → List ℕ
file_line digest path = encode_lower digest ++ codes "  " ++ path ++ 0 ∷ []
