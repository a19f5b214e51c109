-- The numbers that the rows of two lists have in the list of all these rows.
use Rattle.std.specs.Prelude.{◌≡◌, ◌≤◌, ℕ, ◌+◌, ◌-◌, List, [], length, take, drop}
use Rattle.std.specs.Prelude.{Option, Some, None}
use Rattle.std.specs.Prelude.{slice_get}
use Rattle.std.specs.List.{count_by}
use Rattle.std.specs.Ordering.{is_lt}
use Rattle.std.specs.declared.cmp.Ordering.TheVariants.{Less}
use Rattle.history_model.specs.InOrder.{Has}
use Rattle.segment.specs.declared.place.RowPlace.{RowPlace}
use Rattle.as_of_index.specs.Places.{place_cmp}

-- how many of the places have a smaller key than this place, if there is one
abbrev pub count_below : Option RowPlace → List RowPlace → ℕ
count_below None places = 0
count_below (Some p) places = count_by (λ q. is_lt (place_cmp q p)) places

-- the number of a list's row `i` among the rows of both lists in key order: the rows of the other
-- list with smaller keys come before it too
abbrev pub number_in_both : List RowPlace → List RowPlace → ℕ → ℕ
number_in_both own other i = i + count_below (slice_get own i) other

-- the places of two lists of rows
pub record TwoLists : Type 0 where
  pub first : List RowPlace
  pub second : List RowPlace

-- the numbers among the rows of both lists, for the first rows of each list
pub record KnownNumbers : Type 0 where
  pub first : List ℕ
  pub second : List ℕ

abbrev pub no_numbers : KnownNumbers
no_numbers = record { first = []; second = [] }

-- how many rows of two lists have no known number
abbrev pub count_unknown : TwoLists → KnownNumbers → ℕ
count_unknown lists known =
    (length lists.first - length known.first) + (length lists.second - length known.second)

-- numbers that were known are still known
abbrev pub IsKept : KnownNumbers → KnownNumbers → Type 0
IsKept old new =
    (length old.first ≤ length new.first) × (length old.second ≤ length new.second)

-- these are the numbers of the first rows of a list
abbrev pub AreNumbersOf : List RowPlace → List RowPlace → List ℕ → Type 0
AreNumbersOf own other numbers =
    (i n : ℕ) → slice_get numbers i ≡ Some n → n ≡ number_in_both own other i

-- each of the places is less than each of the others
abbrev pub AreBelow : List RowPlace → List RowPlace → Type 0
AreBelow places others = (p q : RowPlace) → Has places p → Has others q → place_cmp p q ≡ Less

-- the numbers of some rows of two lists are known: of those that come first among the rows of both
pub record AreKnown (lists : TwoLists) (known : KnownNumbers) : Type 0 where
  pub first_within : length known.first ≤ length lists.first
  pub second_within : length known.second ≤ length lists.second
  pub first : AreNumbersOf lists.first lists.second known.first
  pub second : AreNumbersOf lists.second lists.first known.second
  pub first_below :
      AreBelow (take (length known.first) lists.first) (drop (length known.second) lists.second)
  pub second_below :
      AreBelow (take (length known.second) lists.second) (drop (length known.first) lists.first)
