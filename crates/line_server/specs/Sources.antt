-- Sources of releases.
use Rattle.std.specs.Prelude.{◌≡◌, ⊤, ℕ, List, Option, Some, None, Result, Ok, Err}
use Rattle.rf2_values.specs.declared.row.Kind.{Kind}
use Rattle.import_check.specs.declared.scope.Scope.{Scope}
use Rattle.import_check.specs.declared.release.Release.{Release}
use Rattle.import_check.specs.Release.{files_of}
use Rattle.history_store.specs.declared.refusal.Refusal.TheVariants as store
use Rattle.line_server.specs.declared.refusal.LineRefusal.{LineRefusal}
use Rattle.line_server.specs.declared.refusal.LineRefusal.TheVariants as refusals
use Rattle.line_server.specs.declared.source.SourceFault.{SourceFault}
use Rattle.line_server.specs.declared.source.SourceFault.TheVariants as faults

-- the files of the release of each name, if there is one: those that a scope includes
abbrev pub Releases : Type 0
Releases = Scope → List ℕ → Option (List (Kind × List ℕ))

-- a source as clauses see it: whether it is honest, that is, returns the releases that it has; and
-- these releases
pub record SourceView : Type 1 where
  pub is_honest : Type 0
  pub releases : Releases

abbrev pub source_view : Type 0 → Releases → SourceView
source_view is_honest releases = record { is_honest = is_honest; releases = releases }

-- an honest source that has no releases
abbrev pub no_releases : SourceView
no_releases = source_view ⊤ (λ _ _. None)

-- the release of the name was returned, or there is none; memory may run out
abbrev pub IsGiven : Result Release SourceFault → Option (List (Kind × List ℕ)) → Type 0
IsGiven (Ok release) files = files ≡ Some (files_of release)
IsGiven (Err faults.NoFolder) files = files ≡ None
IsGiven (Err faults.OutOfMemory) files = Unit {0}

-- the refusal of a line whose release the source didn't return
abbrev pub of_source : SourceFault → LineRefusal
of_source faults.OutOfMemory = refusals.Store store.OutOfMemory
of_source faults.NoFolder = refusals.NoFolder
