-- Searching the dates of places, and adding to a list of dates.
use Rattle.std.specs.Prelude.{◌≡◌, ◌≤◌, ◌⊎◌, ℕ, List}
use Rattle.history_model.specs.InOrder.{Has}
use Rattle.segment.specs.declared.place.RowPlace.{RowPlace}
use Rattle.as_of_index.specs.declared.dates.DateEntry.{DateEntry}
use Rattle.as_of_index.specs.Dates.{IsEntryOf}

-- some entry has the place's date and import
abbrev pub HasEntry : List DateEntry → RowPlace → Type 0
HasEntry entries p = (e : DateEntry) × Has entries e × IsEntryOf p e

-- the new list has the old times and those of the items that the pin shows, and no others
pub record AddsTimes {X : Type 0} (time import : X → ℕ) (pin : ℕ) (xs : List X) (old new : List ℕ)
    : Type 0 where
  pub kept : (t : ℕ) → Has old t → Has new t
  pub added : (x : X) → Has xs x → import x ≤ pin → Has new (time x)
  pub only : (t : ℕ) → Has new t
      → Has old t ⊎ ((x : X) × Has xs x × (import x ≤ pin) × (time x ≡ t))

abbrev pub AddsDates : ℕ → List RowPlace → List ℕ → List ℕ → Type 0
AddsDates = AddsTimes (λ p. p.key.time) (λ p. p.import)
