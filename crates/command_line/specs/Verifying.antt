-- Comparing a store with a package's Snapshot.
use Rattle.std.specs.Prelude.{◌≡◌, ◌⊎◌, ◌≢◌, ℕ, List, [], ◌∷◌, codes, decimal, Ok, Err}
use Rattle.rf2_values.specs.Row.{RowValue}
use Rattle.history_model.specs.History.{rows_at}
use Rattle.disk_model.specs.View.{DiskView}
use Rattle.fault_counts.specs.Counting.{HasRisen}
use Rattle.history_store.specs.declared.refusal.Refusal.TheVariants as store_refusals
use Rattle.history_store.specs.StoreValue.{StoreValue}
use Rattle.history_store.specs.Queries.{IsStoredFor}
use Rattle.snapshot_check.specs.declared.found.Counts.{Counts}
use Rattle.snapshot_check.specs.declared.found.Differences.{Differences}
use Rattle.snapshot_check.specs.Differences.{ShownRows, AreDifferences, Exactly}
use Rattle.line_server.specs.declared.refusal.LineRefusal.{LineRefusal}
use Rattle.line_server.specs.declared.refusal.LineRefusal.TheVariants as refusals
use Rattle.line_server.specs.ReplyValue.{Done as AllDone, line}
use Rattle.command_line.specs.declared.endings.Ending.TheVariants.{Differs}
use Rattle.command_line.specs.Endings.{Report, Tells, IsWritten}
use Rattle.command_line.specs.OnlyRead.{IsOnlyRead}

-- the rows that all imports of a store show at a date
abbrev pub rows_shown : {D : Type 0} → StoreValue D → ℕ → ShownRows
rows_shown store date = record {
  rows = rows_at store.history.imports store.history.rows;
  date = date;
}

-- the row is stored, with the key of the wanted one; on an honest disk it is that one
pub record MayBeReadFor {D : Type 0} (view : D → DiskView) (store : StoreValue D)
    (read wanted : RowValue) : Type 0 where
  pub stored : IsStoredFor view store read wanted
  pub exact : (view store.disk).is_honest → read ≡ wanted

-- The store was compared with the rows of a package's Snapshot, as it shows them at the package's
-- day: on an honest disk this is how they differ, and on every disk how they differ from rows that
-- are stored.
pub record IsComparison {D : Type 0} (view : D → DiskView) (limit : ℕ) (store : StoreValue D)
    (found : Differences) : Type 0 where
  pub packaged : List RowValue
  pub day : ℕ
  pub exact : (view store.disk).is_honest
      → AreDifferences Exactly packaged (rows_shown store day) limit found
  pub possible : AreDifferences (MayBeReadFor view store) packaged (rows_shown store day) limit found

-- ---- what is written

-- no component is missing, more or different
abbrev pub IsWhole : Differences → Type 0
IsWhole found =
    (found.missing.count ≡ 0) × (found.more.count ≡ 0) × (found.different.count ≡ 0)

-- how many rows of each kind the package's Snapshot has, as words
abbrev pub words_of : Counts → List (List ℕ)
words_of counts =
    decimal counts.concepts ∷ decimal counts.descriptions ∷ decimal counts.relationships
    ∷ decimal counts.associations ∷ decimal counts.concretes ∷ decimal counts.members ∷ []

-- the line that says how many components are missing, more and different
abbrev pub differs_line : Differences → List ℕ
differs_line found = line (codes "ERR" ∷ codes "46" ∷ codes "Differs"
    ∷ decimal found.missing.count ∷ decimal found.more.count ∷ decimal found.different.count ∷ [])

-- the numbers of rows were written if nothing differs, and how many components differ otherwise
abbrev pub IsComparisonTold : Differences → Report → Type 0
IsComparisonTold found report =
    (IsWhole found × Tells report (Ok (AllDone (words_of found.counts))))
    ⊎ ((IsWhole found → ⊥)
    × IsWritten Differs (differs_line found) report.ended report.old report.new)

-- Why a store isn't compared: the package can't be read, memory ran out, or the disk failed or is
-- damaged, which no honest one is.
abbrev pub IsNotCompared : {D : Type 0} → (D → DiskView) → (old new : D) → LineRefusal → Type 0
IsNotCompared view old new refusals.NoFolder = Unit {0}
IsNotCompared view old new (refusals.Store (store_refusals.Line file number fault)) = Unit {0}
IsNotCompared view old new (refusals.Store store_refusals.OutOfMemory) = Unit {0}
IsNotCompared view old new (refusals.Store store_refusals.DiskFault) =
    HasRisen (view old).failures (view new).failures
IsNotCompared view old new (refusals.Store store_refusals.Damaged) = (view old).is_honest → ⊥
IsNotCompared view old new refusal = ⊥

-- the store was compared, and how it differs was written; or it was written why it wasn't
abbrev pub IsCompared : {D : Type 0} → (D → DiskView) → ℕ → StoreValue D → D → Report → Type 0
IsCompared view limit store left report =
    ((found : Differences) × IsComparison view limit store found × IsComparisonTold found report)
    ⊎ ((refusal : LineRefusal) × IsNotCompared view store.disk left refusal
    × Tells report (Err refusal))

-- a store was compared with a package's Snapshot, with at most so many differences of a sort listed,
-- and the disk was only read
pub record IsVerifyTold {D : Type 0} (view : D → DiskView) (limit : ℕ) (store : StoreValue D)
    (left : D) (report : Report) : Type 0 where
  pub only_read : IsOnlyRead view store.disk left
  pub compared : IsCompared view limit store left report
