-- The dates and imports of a list's places, as the list keeps them.
use Rattle.std.specs.Prelude.{◌≡◌, ◌≤◌, ℕ, List, Some, slice_get}
use Rattle.history_model.specs.InOrder.{Has}
use Rattle.segment.specs.declared.place.RowPlace.{RowPlace}
use Rattle.as_of_index.specs.declared.dates.DateEntry.{DateEntry}

-- the place has the date and the import
pub record IsEntryOf (p : RowPlace) (e : DateEntry) : Type 0 where
  pub time_is : p.key.time ≡ e.time
  pub import_is : p.import ≡ e.import

-- the place with an entry's number has its date and import, and each place has an entry with these,
-- whose number is at most its own
pub record AreEntries (places : List RowPlace) (entries : List DateEntry) : Type 0 where
  pub stand : (e : DateEntry) → Has entries e
      → (p : RowPlace) × (slice_get places e.first ≡ Some p) × IsEntryOf p e
  pub all : (i : ℕ) (p : RowPlace) → slice_get places i ≡ Some p
      → (e : DateEntry) × Has entries e × (e.first ≤ i) × IsEntryOf p e
