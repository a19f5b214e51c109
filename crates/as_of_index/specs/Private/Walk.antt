-- What a walk over the components of a kind finds: the rows of a page, or of a Delta.
use Rattle.std.specs.Prelude.{ℕ, Bool, ◌&&◌, List, take, Option}
use Rattle.std.specs.List.{filter}
use Rattle.rf2_values.specs.declared.row.Kind.{Kind}
use Rattle.rf2_values.specs.Row.{RowValue}
use Rattle.history_model.specs.Queries.{is_above, is_kind_above, snapshot}

-- a row of the kind, with an id greater than `after` and later than `from`, if these are given
abbrev pub is_walked : Kind → Option ℕ → Option ℕ → RowValue → Bool
is_walked kind from after row = is_kind_above kind after row && is_above from row.time

-- the first `limit` of these at the date
unfoldable pub walked : Kind → Option ℕ → ℕ → Option ℕ → ℕ → List RowValue → List RowValue
walked kind from date after limit rows =
    take limit (filter (is_walked kind from after) (snapshot rows date))
