-- The rows that each import brought.
use Rattle.std.specs.Prelude.{◌==◌, ◌≡◌, ℕ, ◌≤◌, List, [], length, Option, Some, None}
use Rattle.std.specs.List.{filter}
use Rattle.history_model.specs.declared.stamped.StampedRow.{StampedRow}
use Rattle.history_model.specs.InOrder.{Has}
use Rattle.history_model.specs.History.{History}

-- the rows that the import was the first to bring
unfoldable pub brought_by : ℕ → List StampedRow → List StampedRow
brought_by number rows = filter (λ s. s.import == number) rows

-- one of the rows is of this day, and none of a later one; or there are no rows
abbrev pub IsLatestDay : Option ℕ → List StampedRow → Type 0
IsLatestDay None rows = rows ≡ []
IsLatestDay (Some day) rows =
    ((s : StampedRow) × Has rows s × (s.row.time ≡ day))
    × ((s : StampedRow) → Has rows s → s.row.time ≤ day)

-- the receipt of an import at any later time: how many rows it brought, and their greatest
-- effective time if it brought any
pub record ImportReceiptOf (h : History) (number new : ℕ) (latest : Option ℕ) : Type 0 where
  pub imported : (1 ≤ number) × (number ≤ h.imports)
  pub new_is : new ≡ length (brought_by number h.rows)
  pub latest_is : IsLatestDay latest (brought_by number h.rows)
