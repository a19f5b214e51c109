-- The postings of rows, each with its row's number in its list. A posting is anything by which a
-- version can be looked up.
use Rattle.std.specs.Prelude.{ℕ, ◌+◌, List, [], ◌∷◌, ◌++◌}
use Rattle.std.specs.List.Sorted.{IsPermutation}
use Rattle.rf2_values.specs.Row.{RowValue}
use Rattle.history_model.specs.declared.stamped.StampedRow.{StampedRow}

-- the postings of the rows, in their order, if the first row has the number `i`
abbrev pub posted_all : {X : Type 0} → (RowValue → ℕ → List X) → ℕ → List StampedRow → List X
posted_all posted i [] = []
posted_all posted i (s ∷ rows) = posted s.row i ++ posted_all posted (i + 1) rows

-- the lists are the postings of these lists' rows, each with its row's number in its list
abbrev pub AllPosted : {X : Type 0} → (RowValue → ℕ → List X) → List (List StampedRow)
    → List (List X) → Type 0
AllPosted posted [] [] = Unit {0}
AllPosted posted [] (ts ∷ postings) = ⊥
AllPosted posted (rows ∷ lists) [] = ⊥
AllPosted posted (rows ∷ lists) (ts ∷ postings) =
    IsPermutation (posted_all posted 0 rows) ts × AllPosted posted lists postings
