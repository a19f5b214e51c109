-- Rows in key order: the next place, and which rows are asked for.
use Rattle.std.specs.Prelude.{◌≡◌, ◌&&◌, ◌==◌, nat_le, nat_lt, ℕ, Bool, true, List, take, Option}
use Rattle.std.specs.Prelude.{Some, None}
use Rattle.std.specs.List.{filter}
use Rattle.std.specs.declared.cmp.Ordering.TheVariants.{Less}
use Rattle.rf2_values.specs.declared.key.Key.{Key}
use Rattle.rf2_values.specs.declared.row.Kind.{Kind}
use Rattle.rf2_values.specs.Row.{RowValue}
use Rattle.rf2_values.specs.Key.{key_of, kind_place}
use Rattle.history_model.specs.declared.stamped.StampedRow.{StampedRow}
use Rattle.history_model.specs.InOrder.{Has}
use Rattle.history_model.specs.History.{rows_at}
use Rattle.history_model.specs.KeyOrder.{is_key_after}
use Rattle.segment.specs.declared.place.RowPlace.{RowPlace}
use Rattle.as_of_index.specs.Places.{place_cmp}

-- a key of the kind, if that is given
abbrev pub is_key_of : Option Kind → Key → Bool
is_key_of None key = true
is_key_of (Some kind) key = kind_place key.kind == kind_place kind

-- a key of the kind, if that is given, and greater than `after`, if that is given
abbrev pub is_wanted : Option Kind → Option Key → Key → Bool
is_wanted kind after key = is_key_of kind key && is_key_after after key

-- the same, or of a later kind
abbrev pub is_from : Option Kind → Option Key → Key → Bool
is_from None after key = is_key_after after key
is_from (Some kind) after key =
    nat_le (kind_place kind) (kind_place key.kind) && is_key_after after key

-- a key that is given is of a lesser kind
abbrev pub is_before_kind : Option Key → Kind → Bool
is_before_kind None kind = true
is_before_kind (Some key) kind = nat_lt (kind_place key.kind) (kind_place kind)

-- of the places with wanted keys, this is the first
pub record IsFirstWanted (kind : Option Kind) (after : Option Key) (xs : List (ℕ × RowPlace))
    (x : ℕ × RowPlace) : Type 0 where
  pub there : Has xs x
  pub wanted_so : is_wanted kind after x.1.key ≡ true
  pub first : (y : ℕ × RowPlace) → Has xs y → is_wanted kind after y.1.key ≡ true
      → place_cmp y.1 x.1 ≡ Less → ⊥

unfoldable pub IsNextWanted : Option Kind → Option Key → List (ℕ × RowPlace)
    → Option (ℕ × RowPlace) → Type 0
IsNextWanted kind after xs None =
    (y : ℕ × RowPlace) → Has xs y → is_wanted kind after y.1.key ≡ true → ⊥
IsNextWanted kind after xs (Some x) = IsFirstWanted kind after xs x

-- the number of an import is one of these
abbrev pub is_of_imports : (first last number : ℕ) → Bool
is_of_imports first last number = nat_le first number && nat_le number last

-- the rows that these imports were the first to bring
abbrev pub rows_of_imports : (first last : ℕ) → List StampedRow → List RowValue
rows_of_imports first last rows = rows_at last (filter (λ s. nat_le first s.import) rows)

abbrev pub is_row_wanted : Option Kind → Option Key → RowValue → Bool
is_row_wanted kind after row = is_wanted kind after (key_of row)

-- the first `limit` of these with wanted keys
unfoldable pub in_key_order : Option Kind → Option Key → ℕ → List RowValue → List RowValue
in_key_order kind after limit rows = take limit (filter (is_row_wanted kind after) rows)
