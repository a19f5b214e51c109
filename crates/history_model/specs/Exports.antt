-- All rows of a kind, and those that one import brought, for whoever keeps a copy of them
-- elsewhere; and laws of both.
use Rattle.std.specs.Prelude.{◌≡◌, ◌≤◌, ℕ, Bool, ◌&&◌, List, [], ◌∷◌, length, map, flat_map}
use Rattle.std.specs.Prelude.{take, Option, None}
use Rattle.std.specs.List.{filter, range_with_len}
use Rattle.std.specs.List.Sorted.{IsPermutation}
use Rattle.rf2_values.specs.declared.row.Kind.{Kind}
use Rattle.rf2_values.specs.declared.row.Kind.TheVariants as kinds
use Rattle.rf2_values.specs.declared.key.Key.{Key}
use Rattle.rf2_values.specs.Row.{RowValue}
use Rattle.rf2_values.specs.Key.{key_of}
use Rattle.history_model.specs.declared.stamped.StampedRow.{StampedRow}
use Rattle.history_model.specs.InOrder.{IsAscending, joined}
use Rattle.history_model.specs.History.{History, IsHistory, row_cmp, rows_at, after_release}
use Rattle.history_model.specs.Brought.{brought_by, ImportReceiptOf}
use Rattle.history_model.specs.KeyOrder.{is_after}
use Rattle.history_model.specs.Queries.{is_kind}
use Rattle.history_model.specs.Laws.{last_by}

-- a row of the kind whose key is greater than `after`, if that is given
abbrev pub is_kind_after : Kind → Option Key → RowValue → Bool
is_kind_after kind after row = is_kind kind row && is_after after row

-- all versions of the components of the kind, with keys greater than `after`, if that is given
unfoldable pub all_of_kind : Kind → Option Key → List RowValue → List RowValue
all_of_kind kind after rows = filter (is_kind_after kind after) rows

-- the first `limit` of these
unfoldable pub rows_of_kind : Kind → Option Key → ℕ → List RowValue → List RowValue
rows_of_kind kind after limit rows = take limit (all_of_kind kind after rows)

-- the rows that the import was the first to bring
unfoldable pub rows_added : ℕ → List StampedRow → List RowValue
rows_added number rows = map (λ s. s.row) (brought_by number rows)

-- the first `limit` of a kind among these, with keys greater than `after`, if that is given
abbrev pub added : ℕ → Kind → Option Key → ℕ → List StampedRow → List RowValue
added number kind after limit rows = rows_of_kind kind after limit (rows_added number rows)

-- the key of the last row; `after` if there is no row
abbrev pub last_key : Option Key → List RowValue → Option Key
last_key = last_by key_of

-- ---- all kinds

-- the kinds, in the order of keys
abbrev pub all_kinds : List Kind
all_kinds = kinds.Concept ∷ kinds.Description ∷ kinds.Relationship ∷ kinds.Association
    ∷ kinds.Concrete ∷ kinds.Member ∷ []

-- the rows of each kind, one kind after the other, are all rows, each once and in key order
abbrev pub KindsAreAll : Type 0
KindsAreAll = (rows : List RowValue) → IsAscending row_cmp rows
    → joined (map (λ kind. all_of_kind kind None rows) all_kinds) ≡ rows

-- ---- what imports added

-- what an import added is in key order
abbrev pub AddedAscend : Type 0
AddedAscend =
    (h : History) (number : ℕ) → IsHistory h → IsAscending row_cmp (rows_added number h.rows)

-- what the first imports added, together, are the rows that a pin to them shows, each once
abbrev pub AddedAreShown : Type 0
AddedAreShown = (h : History) (pin : ℕ) → IsHistory h
    → IsPermutation (flat_map (λ number. rows_added number h.rows) (range_with_len 1 pin))
    (rows_at pin h.rows)

-- the receipt of an import counts the rows that it added
abbrev pub ReceiptCountsTheAdded : Type 0
ReceiptCountsTheAdded = (h : History) (number new : ℕ) (latest : Option ℕ)
    → ImportReceiptOf h number new latest → new ≡ length (rows_added number h.rows)

-- what an import added isn't changed by later imports
abbrev pub AddedStay : Type 0
AddedStay = (h : History) (release : List RowValue) (number : ℕ)
    → IsHistory h → number ≤ h.imports
    → rows_added number (after_release h release).rows ≡ rows_added number h.rows
