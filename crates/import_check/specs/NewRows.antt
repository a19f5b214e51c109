-- What a release adds, and why it is refused.
use Rattle.std.specs.Prelude.{◌≡◌, ◌≢◌, ◌⊎◌, ℕ, ◌+◌, List, [], ◌++◌, length, ⊤}
use Rattle.rf2_values.specs.Row.{RowValue}
use Rattle.rf2_values.specs.Key.{key_of}
use Rattle.history_model.specs.InOrder.{Has, IsAscending}
use Rattle.history_model.specs.History.{row_cmp, IsConsistent}
use Rattle.import_check.specs.declared.release.Release.{Release}
use Rattle.import_check.specs.declared.found.NewRows.{NewRows}
use Rattle.import_check.specs.declared.fault.ImportFault.{ImportFault}
use Rattle.import_check.specs.declared.fault.ImportFault.TheVariants as importfault
use Rattle.fault_counts.specs.declared.fault.ReadFault.TheVariants as readfault
use Rattle.import_check.specs.Known.{IsUnknown, MayBeKnown, already_known}
use Rattle.fault_counts.specs.Counting.{CountsDiskFault, CountsDamage}
use Rattle.import_check.specs.Release.{SpellFiles, IsReleaseOf, IsFaultOfRelease, HasContradiction}
use Rattle.import_check.specs.Release.{HasPossibleContradiction}

-- the rows that are not known, each once and in key order, and how many other lines there are
pub record AreNewRows (known rows fresh : List RowValue) (repeated : ℕ) : Type 0 where
  pub ascending : IsAscending row_cmp fresh
  pub from_release : (row : RowValue) → Has fresh row → Has rows row
  pub not_known : (row : RowValue) → Has fresh row → Has known row → ⊥
  pub each : (row : RowValue) → Has rows row → (Has known row → ⊥) → Has fresh row
  pub counted : length fresh + repeated ≡ length rows

-- The rows whose keys no known row has, each once and in key order, and how many other lines there
-- are. A row is left out only as one that may be known.
pub record AreNewByKey (known : List RowValue) (may_be : RowValue → Type 0) (rows : List RowValue)
    (fresh : NewRows) : Type 0 where
  pub ascending : IsAscending row_cmp fresh.rows.items
  pub from_release : (row : RowValue) → Has fresh.rows.items row → Has rows row
  pub unknown : (row : RowValue) → Has fresh.rows.items row → IsUnknown known (key_of row)
  pub each : (row : RowValue) → Has rows row
      → Has fresh.rows.items row ⊎ MayBeKnown known may_be row
  pub counted : length fresh.rows.items + fresh.repeated ≡ length rows

-- rows that are accepted: they are consistent with each other and with the known ones, and these
-- are the new ones
pub record AreAcceptedAs (known rows : List RowValue) (fresh : NewRows) : Type 0 where
  pub consistent : IsConsistent (known ++ rows)
  pub fresh_is : AreNewRows known rows fresh.rows.items fresh.repeated

-- each file is a valid release file
pub record IsRead (release : Release) : Type 0 where
  pub lists : List (List RowValue)
  pub spelled : SpellFiles release.files.items lists

-- the release has these rows, and is accepted
pub record IsAcceptedAs (known : List RowValue) (release : Release) (fresh : NewRows) : Type 0 where
  pub rows : List RowValue
  pub rows_are : IsReleaseOf release rows
  pub accepted : AreAcceptedAs known rows fresh

-- the release has these rows, of which these are new by their keys
pub record BringsByKey (known : List RowValue) (may_be : RowValue → Type 0) (release : Release)
    (fresh : NewRows) : Type 0 where
  pub rows : List RowValue
  pub rows_are : IsReleaseOf release rows
  pub new_by_key : AreNewByKey known may_be rows fresh

-- Why a release is refused: a row has a fault, which is the release's first; or each file is a
-- valid release file, and a known row can't be read or a line contradicts. `OutOfMemory` is always
-- possible.
abbrev pub IsRefusal : (honest : Type 0) → List RowValue → Release → ImportFault → Type 0
IsRefusal honest known release importfault.OutOfMemory = ⊤
IsRefusal honest known release (importfault.Known fault) =
    IsRead release × (honest → fault ≢ readfault.Damaged)
IsRefusal honest known release (importfault.Row file line fault) =
    IsFaultOfRelease release file line fault
IsRefusal honest known release (importfault.Contradiction file line key) =
    IsRead release × (honest → HasContradiction known release file line key)

-- Why a release is refused, whatever rows are returned for known keys: a known row can't be read
-- only if a line has the key of one, and a line contradicts only if it differs from another row
-- with its key, which may be known or is on an earlier line.
abbrev pub IsRefusalByKey : List RowValue → (may_be : RowValue → Type 0) → Release → ImportFault
    → Type 0
IsRefusalByKey known may_be release (importfault.Known fault) = (rows : List RowValue)
    → IsReleaseOf release rows → already_known known rows ≡ [] → fault ≡ readfault.OutOfMemory
IsRefusalByKey known may_be release (importfault.Contradiction file line key) =
    HasPossibleContradiction known may_be release file line key
IsRefusalByKey known may_be release _ = ⊤

-- the count of `DiskFault` errors from looking up known rows: it has risen if that is the error,
-- and otherwise is unchanged
abbrev pub CountsAnyDiskFault : ImportFault → ℕ → ℕ → Type 0
CountsAnyDiskFault importfault.OutOfMemory old new = new ≡ old
CountsAnyDiskFault (importfault.Known fault) old new = CountsDiskFault fault old new
CountsAnyDiskFault (importfault.Row file line fault) old new = new ≡ old
CountsAnyDiskFault (importfault.Contradiction file line key) old new = new ≡ old

-- the count of `Damaged` errors from looking up known rows: it has risen if that is the error, and
-- otherwise is unchanged
abbrev pub CountsAnyDamage : ImportFault → ℕ → ℕ → Type 0
CountsAnyDamage importfault.OutOfMemory old new = new ≡ old
CountsAnyDamage (importfault.Known fault) old new = CountsDamage fault old new
CountsAnyDamage (importfault.Row file line fault) old new = new ≡ old
CountsAnyDamage (importfault.Contradiction file line key) old new = new ≡ old
