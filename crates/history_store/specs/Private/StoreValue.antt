-- Definitions that complete those of `StoreValue`. No public clause cites them.
use Rattle.std.specs.Prelude.{ℕ, ◌+◌, [], ◌∷◌, List}
use Rattle.history_model.specs.declared.stamped.StampedRow.{StampedRow}
use Rattle.history_model.specs.History.{History}
use Rattle.history_model.specs.Lists.{listed}
use Rattle.directory.specs.Listings.{DirectoryValue}
use Rattle.history_store.specs.StoreValue.{StoreValue}

-- the directory of a store
abbrev pub directory_of : {D : Type 0} → StoreValue D → DirectoryValue
directory_of s = record {
  layout = s.catalog.layout;
  epoch = s.catalog.epoch;
  imports = s.history.imports;
  entries = s.catalog.entries;
}

-- the history with this number of imports
abbrev pub with_imports : History → ℕ → History
with_imports h imports = record { imports = imports; rows = h.rows }

-- the history after one more import, which brought these rows
abbrev pub with_rows : History → List StampedRow → History
with_rows h rows = record { imports = h.imports + 1; rows = listed (h.rows ∷ rows ∷ []) }
