-- Rows in the order of their keys.
use Rattle.std.specs.Prelude.{ℕ, Bool, true, List, take, Option, Some, None}
use Rattle.std.specs.List.{filter}
use Rattle.std.specs.Ordering.{is_lt}
use Rattle.rf2_values.specs.declared.key.Key.{Key}
use Rattle.rf2_values.specs.Row.{RowValue}
use Rattle.rf2_values.specs.Key.{key_of, key_cmp}

-- a key is greater than `after`, if that is given
abbrev pub is_key_after : Option Key → Key → Bool
is_key_after None key = true
is_key_after (Some after) key = is_lt (key_cmp after key)

abbrev pub is_after : Option Key → RowValue → Bool
is_after after row = is_key_after after (key_of row)

-- the first `limit` of the rows whose keys are greater than `after`, if that is given
unfoldable pub rows_after : Option Key → ℕ → List RowValue → List RowValue
rows_after after limit rows = take limit (filter (is_after after) rows)
