-- What hashing one row does. No public clause cites these definitions.
use Rattle.std.specs.Prelude.{◌≡◌, ℕ, ◌+◌, ◌≤◌, List, [], ◌++◌, map, false, Option, Result, IfOk, IfErr, OnOk}
use Rattle.std.specs.Option.{option_to_list}
use Rattle.std.specs.List.{sum_by}
use Rattle.sha2.specs.declared.Sha256.{Sha256}
use Rattle.sha2.specs.Hashers.{Holds256}
use Rattle.rf2_values.specs.declared.key.Key.{Key}
use Rattle.rf2_values.specs.Row.{RowValue}
use Rattle.rf2_values.specs.Key.{key_of}
use Rattle.history_model.specs.History.{rows_at}
use Rattle.history_model.specs.KeyOrder.{rows_after}
use Rattle.disk_model.specs.View.{DiskView}
use Rattle.as_of_index.specs.Reader.{AreFor}
use Rattle.history_store.specs.declared.refusal.Refusal.{Refusal}
use Rattle.history_store.specs.Reading.{row_cost}
use Rattle.history_store.specs.StoreValue.{StoreValue}
use Rattle.history_store.specs.Stored.{IsStored}
use Rattle.history_store.specs.Queries.{IsQuery, IsStoredFor, IsWithoutRead, ReadsThroughCache}
use Rattle.store_digest.specs.Digest.{text_of}

-- the next row after a key that the pin shows, or none
abbrev pub next_row : {D : Type 0} → Option Key → ℕ → StoreValue D → List RowValue
next_row after pin store = rows_after after 1 (rows_at pin store.history.rows)

-- Text was hashed after what was hashed before: that of one row for each of these rows, which on an
-- honest disk are these.
pub record AreHashed (honest : Type 0) (IsFor : RowValue → RowValue → Type 0)
    (rows : List RowValue) (before after_it : Sha256) : Type 0 where
  pub read : List RowValue
  pub each : AreFor false IsFor read rows
  pub found : honest → read ≡ rows
  pub holds : (m : List ℕ) → Holds256 before m → Holds256 after_it (m ++ text_of read)

-- The next row after a key was hashed, and its key is returned; or there is none.
pub record IsNextAdded {D : Type 0} (result : Result (Option Key) Refusal) (after : Option Key)
    (pin : ℕ) (before after_it : Sha256)
    (view : D → DiskView) (old new : StoreValue D) : Type 0 where
  pub hashed : OnOk result
      (AreHashed (view old.disk).is_honest (IsStoredFor view old) (next_row after pin old) before
      after_it)
  pub steady : (row : RowValue) → IsStored view new row → IsStored view old row
  pub key : IfOk result (λ key. option_to_list key ≡ map key_of (next_row after pin old))
  pub causes : next_row after pin old ≡ [] → IfErr result IsWithoutRead
  pub query : IsQuery result view old new
  pub other_calls : (view new.disk).other_calls ≡ (view old.disk).other_calls
  pub looked_up : ReadsThroughCache view old new
  pub bytes_read : (view new.disk).bytes_read
      ≤ (view old.disk).bytes_read + sum_by row_cost (next_row after pin old)
