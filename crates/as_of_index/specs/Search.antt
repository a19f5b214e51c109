-- The place of the row that a query returns.
use Rattle.std.specs.Prelude.{◌≡◌, ℕ, List, Option, Some, None}
use Rattle.rf2_values.specs.Row.{RowValue}
use Rattle.history_model.specs.declared.stamped.StampedRow.{StampedRow}
use Rattle.segment.specs.declared.place.RowPlace.{RowPlace}
use Rattle.segment.specs.Standing.{StandsAt}

-- the returned row is at this place; and if none is returned, there is no place
abbrev pub IsPlaceOf : List (List StampedRow) → Option RowValue → Option (ℕ × RowPlace) → Type 0
IsPlaceOf lists answer None = answer ≡ None
IsPlaceOf lists answer (Some x) =
    (s : StampedRow) × StandsAt lists x.0 x.1 s × (answer ≡ Some s.row)
