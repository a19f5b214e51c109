-- The result of checking a release: whether an import would accept it, and with which receipt.
use Rattle.std.specs.Prelude.{◌≡◌, ◌⊎◌, ◌↔◌, true, false, Result, Ok, Err}
use Rattle.disk_model.specs.View.{DiskView}
use Rattle.history_model.specs.declared.receipt.Receipt.{Receipt}
use Rattle.history_model.specs.History.{History}
use Rattle.import_check.specs.declared.release.Release.{Release}
use Rattle.history_store.specs.declared.refusal.Refusal.{Refusal}
use Rattle.history_store.specs.declared.refusal.Refusal.TheVariants as refusals
use Rattle.history_store.specs.Catalog.{Catalog}
use Rattle.rf2_values.specs.Row.{RowValue}
use Rattle.history_store.specs.Stored.{IsStored}
use Rattle.history_store.specs.StoreValue.{StoreValue, IsAcknowledged}
use Rattle.history_store.specs.Prepared.{IsNotSpent, IsForLater, scope_of}
use Rattle.history_store.specs.Meters.{IsMeteredReading}
use Rattle.history_store.specs.Answers.{AnyRow, IsTakenAs, IsTakenByKey, IsRefused, IsStill}
use Rattle.history_store.specs.Answers.{IsRefusedFor, IsNotTaken, IsNotTakenByKey}
use Rattle.history_store.specs.Answers.{IsImportOf, IsImportOnAnyDisk}

-- The receipt and the reasons are those of an import, but nothing is imported. Since nothing is
-- written, a full file system, or a disk that refuses a write, isn't noticed. Only a disk failure
-- closes the store.
abbrev pub IsCheckingOf : {D : Type 0} → Result Receipt Refusal → StoreValue D → StoreValue D
    → Release → Type 0
IsCheckingOf (Ok receipt) old new release =
    ((after : History) × (next : Catalog)
    × IsTakenAs old.history after old.catalog next release receipt) × IsStill old new
IsCheckingOf (Err e) old new release =
    IsRefusedFor (IsNotTaken old.history old.catalog release) e old × IsRefused e old new

-- the same on every disk
abbrev pub IsCheckingOnAnyDisk : {D : Type 0} → (may_be : RowValue → Type 0)
    → Result Receipt Refusal → StoreValue D → StoreValue D → Release → Type 0
IsCheckingOnAnyDisk may_be (Ok receipt) old new release =
    ((after : History) × (next : Catalog)
    × IsTakenByKey may_be old.history after old.catalog next release receipt) × IsStill old new
IsCheckingOnAnyDisk may_be (Err e) old new release =
    IsRefusedFor (IsNotTakenByKey may_be ⊥ old.history old.catalog release) e old
    × IsRefused e old new

-- A release was checked. Whatever the result, history and catalog are unchanged, and only a disk
-- failure closes the store. The store is left unchanged if it has to be opened again, or if the
-- release is for a later layout. As long as no call has failed, what a crash may leave represents
-- what the store holds. Only reads are made.
pub record IsChecking {D : Type 0} (result : Result Receipt Refusal) (release : Release)
    (view : D → DiskView) (old new : StoreValue D) : Type 0 where
  pub answer : (view old.disk).is_honest → IsCheckingOf result old new release
  pub kept : IsCheckingOnAnyDisk (IsStored view old) result old new release
  pub closed : old.needs_reopen ≡ true → new ≡ old
  pub later : IsForLater (scope_of old.catalog) release → new ≡ old
  pub acknowledged : (view old.disk).is_honest → new.needs_reopen ≡ false → IsAcknowledged view new
  pub meters : IsMeteredReading result release view old new

-- ---- an import returns what a check returned

-- memory ran out, or the disk failed
abbrev pub HasFailed : Result Receipt Refusal → Type 0
HasFailed (Err refusals.OutOfMemory) = Unit {0}
HasFailed (Err refusals.DiskFault) = Unit {0}
HasFailed _ = ⊥

-- An import of the release that was checked just before returns the same receipt or the same
-- refusal, unless memory runs out or the disk fails in one of the two calls.
abbrev pub CheckedIsImported : Type 0 → Type 0
CheckedIsImported D = (old checked new : StoreValue D) (release : Release)
    (answer result : Result Receipt Refusal)
    → IsCheckingOf answer old checked release → IsImportOf result checked new release
    → (result ≡ answer) ⊎ (HasFailed answer ⊎ HasFailed result)

-- memory ran out, the disk failed, or a stored row was read as damaged or as contradicting the
-- release
abbrev pub DependsOnReading : Result Receipt Refusal → Type 0
DependsOnReading (Err refusals.Damaged) = Unit {0}
DependsOnReading (Err (refusals.Contradiction file line)) = Unit {0}
DependsOnReading answer = HasFailed answer

-- the same on every disk and whichever rows may be stored, unless one of the two results depends on
-- stored rows that were read
abbrev pub CheckedIsImportedOnAnyDisk : Type 0 → Type 0
CheckedIsImportedOnAnyDisk D = (old checked new : StoreValue D) (release : Release)
    (answer result : Result Receipt Refusal)
    → IsCheckingOnAnyDisk AnyRow answer old checked release
    → IsImportOnAnyDisk AnyRow result checked new release
    → (result ≡ answer) ⊎ (DependsOnReading answer ⊎ DependsOnReading result)

-- ---- when a release is refused as one for a later layout

-- the store is open, its counts aren't spent, and the release is for a later layout
abbrev pub IsTooEarly : {D : Type 0} → StoreValue D → Release → Type 0
IsTooEarly s release = (s.needs_reopen ≡ false)
    × IsNotSpent s.history.imports s.catalog.epoch × IsForLater (scope_of s.catalog) release

-- Exactly then an import and a check are refused with `LaterVersion`, on every disk.
abbrev pub LaterIsRefused : Type 0 → Type 0
LaterIsRefused D =
    (old new : StoreValue D) (release : Release) (result : Result Receipt Refusal)
    → IsImportOnAnyDisk AnyRow result old new release
    ⊎ IsCheckingOnAnyDisk AnyRow result old new release
    → (result ≡ Err refusals.LaterVersion) ↔ IsTooEarly old release
