-- Which rows a question selects by their postings: what `Wanted` says, and when the rows that pass a
-- test are those with a wanted posting.
use Rattle.std.specs.Prelude.{◌≡◌, ◌==◌, ◌&&◌, ◌||◌, not, ℕ, Bool, true, List, take}
use Rattle.std.specs.Prelude.{nat_le, Option, Some, None}
use Rattle.std.specs.List.{filter, list_any}
use Rattle.rf2_values.specs.declared.row.Kind.TheVariants as kinds
use Rattle.rf2_values.specs.Row.{RowValue, kind_of}
use Rattle.history_model.specs.Queries.{is_above, snapshot}
use Rattle.links.specs.declared.wanted.Seconds.{Seconds}
use Rattle.links.specs.declared.wanted.Seconds.TheVariants as seconds
use Rattle.links.specs.declared.wanted.Wanted.{Wanted}
use Rattle.links.specs.Edges.{RowKey, keys_of, tag_place}

-- the number is at most `last`, if that is given
abbrev pub is_up_to : Option ℕ → ℕ → Bool
is_up_to None n = true
is_up_to (Some last) n = nat_le n last

abbrev pub is_between : Option ℕ → Option ℕ → ℕ → Bool
is_between after last n = is_above after n && is_up_to last n

abbrev pub is_second : Seconds → ℕ → Bool
is_second (seconds.Between after last) n = is_between after last n
is_second (seconds.Only number) n = n == number

-- the key is a wanted one
abbrev pub is_wanted : Wanted → RowKey → Bool
is_wanted w k = tag_place k.tag == tag_place w.tag && is_second w.seconds k.second
    && (k.active || not w.active) && k.first == w.first

-- a row passes the test exactly if one of its postings is wanted: all that a question has to show
abbrev pub IsPath : (RowValue → Bool) → Wanted → Type 0
IsPath test w = (row : RowValue) → test row ≡ list_any (is_wanted w) (keys_of row)

-- the same, and what passes is a member of a reference set
pub record IsMemberPath (test : RowValue → Bool) (w : Wanted) : Type 0 where
  pub path : IsPath test w
  pub of_kind : (row : RowValue) → test row ≡ true → kind_of row ≡ kinds.Member

-- the rows at the date that pass the test, with ids greater than `after`, if that is given
abbrev pub passed_above : (RowValue → Bool) → ℕ → Option ℕ → List RowValue → List RowValue
passed_above test date after rows =
    filter (λ row. test row && is_above after row.id) (snapshot rows date)

-- the first `limit` of these
abbrev pub page_of : (RowValue → Bool) → ℕ → Option ℕ → ℕ → List RowValue → List RowValue
page_of test date after limit rows = take limit (passed_above test date after rows)
