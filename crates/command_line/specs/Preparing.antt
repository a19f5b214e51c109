-- Preparing a store of one release.
use Rattle.std.specs.Prelude.{◌≡◌, ◌⊎◌, ℕ, List, [], ◌∷◌, decimal, Option, Some, None}
use Rattle.std.specs.Prelude.{Result, Ok, Err, MatchResult}
use Rattle.disk_model.specs.View.{DiskView}
use Rattle.directory.specs.declared.layout.Layout.TheVariants as layouts
use Rattle.history_model.specs.declared.receipt.Receipt.{Receipt}
use Rattle.import_check.specs.declared.release.Release.{Release}
use Rattle.import_check.specs.Release.{files_of}
use Rattle.history_store.specs.declared.refusal.Refusal.{Refusal}
use Rattle.history_store.specs.declared.refusal.Refusal.TheVariants as store_refusals
use Rattle.history_store.specs.StoreValue.{StoreValue}
use Rattle.history_store.specs.Stored.{IsStored}
use Rattle.history_store.specs.Prepared.{scope_of}
use Rattle.history_store.specs.Answers.{StoreOr, IsImportOf, IsImportOnAnyDisk, IsBeforeOrAfter}
use Rattle.history_store.specs.Crashes.{IsCrashSafe}
use Rattle.history_store.specs.Openings.{IsMaking}
use Rattle.line_server.specs.declared.refusal.LineRefusal.{LineRefusal}
use Rattle.line_server.specs.declared.refusal.LineRefusal.TheVariants as refusals
use Rattle.line_server.specs.ReplyValue.{Answer, Done as AllDone}
use Rattle.line_server.specs.Sources.{SourceView}
use Rattle.command_line.specs.Copies.{IsKept}
use Rattle.command_line.specs.Endings.{Report, Tells}
use Rattle.command_line.specs.Hosts.{HostView}

-- A release was imported into a store, or refused: if the source is honest, the one that it has
-- under this name, with the files that the store keeps. A crash within the import leaves the store
-- as it was before or as it is after it.
pub record IsImportFrom {D : Type 0} (source : SourceView) (view : D → DiskView) (name : List ℕ)
    (result : Result Receipt Refusal) (old new : StoreValue D) : Type 0 where
  pub release : Release
  pub has : source.is_honest
      → source.releases (scope_of old.catalog) name ≡ Some (files_of release)
  pub exact : (view old.disk).is_honest → IsImportOf result old new release
  pub possible : IsImportOnAnyDisk (IsStored view old) result old new release
  pub crash : IsCrashSafe view (IsBeforeOrAfter old.catalog.layout old.history release) old new

-- The release of this name was imported; or it is told why it wasn't: there is none, or the store
-- refused it. Memory may run out before the import, in it, or behind it.
abbrev pub IsBrought : {D : Type 0} → SourceView → (D → DiskView) → List ℕ
    → Result Receipt LineRefusal → StoreValue D → StoreValue D → Type 0
IsBrought source view name (Ok receipt) old new =
    IsImportFrom source view name (Ok receipt) old new
IsBrought source view name (Err refusals.NoFolder) old new =
    (source.is_honest → source.releases (scope_of old.catalog) name ≡ None) × (new ≡ old)
IsBrought source view name (Err (refusals.Store store_refusals.OutOfMemory)) old new =
    (new ≡ old) ⊎ ((result : Result Receipt Refusal)
    × IsImportFrom source view name result old new)
IsBrought source view name (Err (refusals.Store refusal)) old new =
    IsImportFrom source view name (Err refusal) old new
IsBrought source view name (Err refusal) old new = ⊥

-- what is told of a prepared store: how many rows it has, and how many lines of its release repeat
-- one; or why there is none
abbrev pub prepared_told : Result Receipt LineRefusal → Result Answer LineRefusal
prepared_told (Ok receipt) = Ok (AllDone (decimal receipt.new ∷ decimal receipt.repeated ∷ []))
prepared_told (Err refusal) = Err refusal

-- The release of this name was imported into a new store, and the outcome was written. The store is
-- kept; the file of one into which nothing was imported is removed.
pub record IsFilled {D : Type 0} (host : HostView D) (source : SourceView) (view : D → DiskView)
    (name : List ℕ) (store : StoreValue D) (left : Option D) (report : Report) : Type 0 where
  pub result : Result Receipt LineRefusal
  pub after : StoreValue D
  pub brought : IsBrought source view name result store after
  pub told : Tells report (prepared_told result)
  pub left_so : IsKept host result after.disk left

-- A store of layout 3 was made on this disk, and the release of this name was imported into it; or
-- it was written why no store was made, and the disk was left so.
pub record IsPreparedOn {D : Type 0} (host : HostView D) (source : SourceView)
    (view : D → DiskView) (name : List ℕ) (disk : D) (left : Option D) (report : Report)
    : Type 0 where
  pub had : StoreOr D
  pub making : IsMaking layouts.Three had view disk
  pub does : MatchResult had (λ store. IsFilled host source view name store left report)
      (λ e. Tells report (Err (refusals.Store e.0)) × (left ≡ Some e.1))
