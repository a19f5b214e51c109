-- Laws of the answers to audit questions: what changed, what was ever about a component, what it
-- replaces, and which days have rows. `rows` are the rows that a pin shows.
use Rattle.std.specs.Prelude.{Option, Some, None, ◌≡◌, ◌≢◌, ◌↔◌, ◌⊎◌, ℕ, ◌<◌, ◌≤◌}
use Rattle.std.specs.Prelude.{List, [], map, true}
use Rattle.std.specs.Ordering.{nat_cmp, ordering_then}
use Rattle.std.specs.declared.cmp.Ordering.{Ordering}
use Rattle.rf2_values.specs.declared.row.Kind.{Kind}
use Rattle.rf2_values.specs.Row.{RowValue}
use Rattle.history_model.specs.InOrder.{Has, IsAscending}
use Rattle.history_model.specs.History.{History, IsHistory, row_cmp, after_release, rows_at}
use Rattle.history_model.specs.Queries.{snapshot, get, versions, page, about, replacements}
use Rattle.history_model.specs.Queries.{changed_above, delta, timeline, dates, target_of}
use Rattle.history_model.specs.Queries.{is_replaced_by, referenced_of, replaces}
use Rattle.history_model.specs.Laws.{by_id, by_time}

-- ---- what changed

-- the components of the kind that changed from one date to the other, by their ids
abbrev pub changed_ids : Kind → ℕ → ℕ → List RowValue → List ℕ
changed_ids kind from date rows = map (λ row. row.id) (changed_above kind from date None rows)

-- they are those with different rows at the two dates, where having no row counts as different from
-- having one
abbrev pub DeltaIsWhatDiffers : Type 0
DeltaIsWhatDiffers = (kind : Kind) (from date id : ℕ) (rows : List RowValue)
    → IsAscending row_cmp rows → from ≤ date
    → Has (changed_ids kind from date rows) id ↔ (get kind id from rows ≢ get kind id date rows)

-- for each of them there is the row at the later date
abbrev pub DeltaHasTheLaterRow : Type 0
DeltaHasTheLaterRow = (kind : Kind) (from date : ℕ) (rows : List RowValue) (row : RowValue)
    → IsAscending row_cmp rows → Has (changed_above kind from date None rows) row
    → get kind row.id date rows ≡ Some row

-- what changed since before all rows is what a page shows
abbrev pub DeltaFromTheFirst : Type 0
DeltaFromTheFirst =
    (kind : Kind) (from date : ℕ) (after : Option ℕ) (limit : ℕ) (rows : List RowValue)
    → ((row : RowValue) → Has rows row → from < row.time)
    → delta kind from date after limit rows ≡ page kind date after limit rows

-- nothing changes from a date to an earlier one
abbrev pub DeltaBackwardsIsEmpty : Type 0
DeltaBackwardsIsEmpty =
    (kind : Kind) (from date : ℕ) (after : Option ℕ) (limit : ℕ) (rows : List RowValue)
    → date ≤ from → delta kind from date after limit rows ≡ []

-- two Deltas, of which one begins where the other ends, cover the Delta over both
abbrev pub TwoDeltasCoverBoth : Type 0
TwoDeltasCoverBoth = (kind : Kind) (from between date id : ℕ) (rows : List RowValue)
    → from ≤ between → between ≤ date → Has (changed_ids kind from date rows) id
    ↔ (Has (changed_ids kind from between rows) id ⊎ Has (changed_ids kind between date rows) id)

-- ---- what was ever about a component

-- a timeline has all versions of the components that were about the component at some date, and
-- nothing else
abbrev pub TimelineIsAll : Type 0
TimelineIsAll = (kind : Kind) (id : ℕ) (rows : List RowValue) (row : RowValue)
    → Has (timeline kind id rows) row
    ↔ ((date : ℕ) × (other : RowValue) × Has (about kind id date rows) other
    × Has (versions kind other.id rows) row)

-- so it has each row that is about the component at some date
abbrev pub TimelineHasWhatIsAbout : Type 0
TimelineHasWhatIsAbout = (kind : Kind) (id date : ℕ) (rows : List RowValue) (row : RowValue)
    → Has (about kind id date rows) row → Has (timeline kind id rows) row

-- the order by id, then by time
abbrev pub by_version : RowValue → RowValue → Ordering
by_version a b = ordering_then (by_id a b) (by_time a b)

-- ---- what a component replaces

-- they are all associations of the Snapshot with this target
abbrev pub ReplacesAreAll : Type 0
ReplacesAreAll = (id date : ℕ) (rows : List RowValue) (row : RowValue)
    → IsAscending row_cmp rows → Has (replaces id date rows) row
    ↔ (Has (snapshot rows date) row × (is_replaced_by id row ≡ true))

-- what replaces a component, and what the other one replaces, are the same associations, from their
-- two ends
abbrev pub BothEndsAreOne : Type 0
BothEndsAreOne = (id target date : ℕ) (rows : List RowValue) (row : RowValue)
    → IsAscending row_cmp rows
    → (Has (replacements id date rows) row × (target_of row.body ≡ target))
    ↔ (Has (replaces target date rows) row × (referenced_of row.body ≡ id))

-- ---- which days have rows

-- they are the effective times of all versions of all components
abbrev pub DatesAreThoseOfVersions : Type 0
DatesAreThoseOfVersions = (rows : List RowValue) (time : ℕ) → Has (dates rows) time
    ↔ ((kind : Kind) × (id : ℕ) × (row : RowValue) × Has (versions kind id rows) row
    × (row.time ≡ time))

abbrev pub DatesAscend : Type 0
DatesAscend = (rows : List RowValue) → IsAscending nat_cmp (dates rows)

-- ---- later imports

abbrev pub DatesStay : Type 0
DatesStay = (h : History) (release : List RowValue) (pin : ℕ)
    → IsHistory h → pin ≤ h.imports
    → dates (rows_at pin (after_release h release).rows) ≡ dates (rows_at pin h.rows)
