-- Which places are those of the versions at a date.
use Rattle.std.specs.Prelude.{◌≡◌, ℕ, List, map, Some}
use Rattle.rf2_values.specs.Row.{RowValue}
use Rattle.history_model.specs.declared.stamped.StampedRow.{StampedRow}
use Rattle.history_model.specs.History.{rows_at}
use Rattle.history_model.specs.Lists.{listed}
use Rattle.history_model.specs.Queries.{get}
use Rattle.segment.specs.declared.place.RowPlace.{RowPlace}
use Rattle.segment.specs.Standing.{places_of, StandsAt}
use Rattle.as_of_index.specs.declared.as_of.AsOf.{AsOf}
use Rattle.as_of_index.specs.Places.{item_at}

-- the rows in the lists that the question sees, in key order
abbrev pub rows_seen : AsOf → List (List StampedRow) → List RowValue
rows_seen as_of lists = rows_at as_of.pin (listed lists)

-- the place is that of row `i` of list `n`
abbrev pub IsPlaceOfRow : List (List StampedRow) → ℕ → ℕ → RowPlace → Type 0
IsPlaceOfRow lists n i at = item_at (map places_of lists) n i ≡ Some at

-- the version at the place is the one at the date, among those that the question sees
abbrev pub IsCurrentAt : List (List StampedRow) → AsOf → ℕ → RowPlace → Type 0
IsCurrentAt lists as_of n at = (s : StampedRow) × StandsAt lists n at s
    × (get at.key.kind at.key.id as_of.date (rows_seen as_of lists) ≡ Some s.row)
