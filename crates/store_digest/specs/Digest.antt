-- The digest of rows, and the result of asking a store for the digest of all its rows.
use Rattle.std.specs.Prelude.{◌≡◌, ℕ, ◌+◌, ◌≤◌, List, [], ◌∷◌, ◌++◌, false, codes, Result, IfOk, IfErr}
use Rattle.std.specs.List.{flat_map, sum_by}
use Rattle.sha2.specs.Sha256.{sha256}
use Rattle.rf2_values.specs.Row.{RowValue, kind_of, canonical}
use Rattle.rf2_values.specs.Key.{key_of}
use Rattle.history_model.specs.History.{rows_at}
use Rattle.disk_model.specs.View.{DiskView}
use Rattle.as_of_index.specs.Reader.{AreFor}
use Rattle.line_commands.specs.Spelling.{letter}
use Rattle.history_store.specs.declared.refusal.Refusal.{Refusal}
use Rattle.history_store.specs.Reading.{row_cost}
use Rattle.history_store.specs.StoreValue.{StoreValue}
use Rattle.history_store.specs.Queries.{IsQuery, IsStoredFor, IsWithoutRead, ReadsThroughCache}

-- a row's line: the letter of its kind, a space, its canonical spelling and LF
abbrev pub text_line : RowValue → List ℕ
text_line row = letter (kind_of row) ++ codes " " ++ canonical row ++ 10 ∷ []

-- the lines of all rows
abbrev pub text_of : List RowValue → List ℕ
text_of rows = flat_map text_line rows

-- the SHA-256 of this text
abbrev pub digest_of : List RowValue → List ℕ
digest_of rows = sha256 (text_of rows)

-- the digest is that of rows, each of which is one for the row with the same place among these
abbrev pub IsDigestFor : (RowValue → RowValue → Type 0) → List ℕ → List RowValue → Type 0
IsDigestFor IsFor digest shown = (rows : List RowValue) × (digest ≡ digest_of rows)
    × AreFor false IsFor rows shown

-- the digest is that of rows which have the same keys as these, in the same order
abbrev pub IsDigestByKey : List ℕ → List RowValue → Type 0
IsDigestByKey = IsDigestFor (λ row wanted. key_of row ≡ key_of wanted)

-- On an honest disk the digest is that of all rows that the pin shows, in key order. On every disk
-- it is that of rows which are stored, each with the key of the row that the pin shows in its
-- place: no row is left out, and none is made up. On every disk no calls but reads are made, cached
-- blocks aren't read again, and no more is read than these rows take, each counted once. If there
-- is no row, the disk doesn't fail, and none is damaged.
pub record IsDigestQuery {D : Type 0} (result : Result (List ℕ) Refusal) (pin : ℕ)
    (view : D → DiskView) (old new : StoreValue D) : Type 0 where
  pub found : (view old.disk).is_honest
      → IfOk result (λ digest. digest ≡ digest_of (rows_at pin old.history.rows))
  pub stored : IfOk result
      (λ digest. IsDigestFor (IsStoredFor view old) digest (rows_at pin old.history.rows))
  pub causes : rows_at pin old.history.rows ≡ [] → IfErr result IsWithoutRead
  pub query : IsQuery result view old new
  pub other_calls : (view new.disk).other_calls ≡ (view old.disk).other_calls
  pub looked_up : ReadsThroughCache view old new
  pub bytes_read : (view new.disk).bytes_read
      ≤ (view old.disk).bytes_read + sum_by row_cost (rows_at pin old.history.rows)
